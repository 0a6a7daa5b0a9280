use Rattle.std.proofs.Common.{slice_index}
use Rattle.bool_expr.specs.Expression.{bit}
use Rattle.boog_tree.proofs.Picking.{Picking}
use Rattle.boog_tree.proofs.pick.best_pick.Given as goal

abbrev pub invariant-loop-cut : goal.invariant-loop-cut
invariant-loop-cut l = Picking l.cells l.areas (bit l.inner) (slice_index l.bounds) l.cuts l.cut-index l.best
