use Rattle.std.proofs.Common.{◌≡◌, ◌*◌, ◌≤◌, take, slice_index}
use Rattle.bool_expr.specs.Expression.{bit}
use Rattle.boog_tree.specs.Sums.{inner_sum}
use Rattle.boog_tree.proofs.alike.sum.Given as goal

abbrev pub invariant-loop-member : goal.invariant-loop-member
invariant-loop-member l = record {
  sum : l.sum ≡ inner_sum (bit l.inner) (slice_index l.bounds) (take l.member-index l.members);
  fits : l.sum ≤ 18446744073709551616 * l.member-index;
}
