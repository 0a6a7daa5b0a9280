use Rattle.std.proofs.Common.{◌≡◌, ◌+◌, ◌*◌, ◌≤◌, take, get_or, slice_index}
use Rattle.bool_expr.specs.Expression.{bit}
use Rattle.boog_tree.specs.Sums.{inner_sum}
use Rattle.boog_tree.proofs.pick.cost_of.Given as goal

abbrev pub invariant-loop-leaf : goal.invariant-loop-leaf
invariant-loop-leaf l = record {
  sum : l.cost ≡ get_or l.areas l.gate.cell 0 + inner_sum (bit l.inner) (slice_index l.bounds) (take l.leaf-index l.leaf-items);
  fits : l.cost ≤ 4294967296 + 18446744073709551616 * l.leaf-index;
}
