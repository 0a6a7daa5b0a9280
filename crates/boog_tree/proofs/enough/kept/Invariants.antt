use Rattle.std.proofs.Common.{take, slice_index}
use Rattle.bool_expr.specs.Expression.{bit}
use Rattle.boog_tree.specs.Alike.{AreKept}
use Rattle.boog_tree.proofs.enough.kept.Given as goal

abbrev pub invariant-loop-first : goal.invariant-loop-first
invariant-loop-first l = AreKept (bit l.inner) (slice_index l.bounds) (take l.first-index l.firsts) l.seconds l.cuts.items
