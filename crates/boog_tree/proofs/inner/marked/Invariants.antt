use Rattle.std.proofs.Common.{◌≡◌, ◌<◌, ℕ, length}
use Rattle.bool_expr.specs.Expression.{bit}
use Rattle.boog_tree.specs.Trees.{is_inner}
use Rattle.boog_tree.proofs.inner.marked.Given as goal

abbrev pub invariant-loop-number : goal.invariant-loop-number
invariant-loop-number l = record {
  long : length l.inner.items ≡ l.number;
  each : (x : ℕ) → x < l.number → bit l.inner.items x ≡ is_inner l.held l.graph x;
}
