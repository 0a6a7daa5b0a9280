use Rattle.std.proofs.Common.{take, slice_index}
use Rattle.bool_expr.specs.Expression.{bit}
use Rattle.boog_tree.specs.Alike.{IsKeptFrom}
use Rattle.boog_tree.proofs.enough.keep_with.Given as goal

abbrev pub invariant-loop-second : goal.invariant-loop-second
invariant-loop-second l = IsKeptFrom (bit l.inner) (slice_index l.bounds) l.initial.cuts.items l.first (take l.second-index l.seconds) l.cuts.items
