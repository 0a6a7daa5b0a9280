use Rattle.std.proofs.Common.{◌<◌, ℕ, slice_index}
use Rattle.bool_expr.specs.Expression.{bit}
use Rattle.boog_tree.specs.Alike.{MayStand}
use Rattle.boog_tree.proofs.alike.have_alike.Given as goal

abbrev pub invariant-loop-at : goal.invariant-loop-at
invariant-loop-at l = (i : ℕ) → i < l.at → MayStand (bit l.inner) (slice_index l.first i) (slice_index l.second i)
