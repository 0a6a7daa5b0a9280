use Rattle.std.proofs.Common.{◌≡◌, ◌*◌, ◌≤◌, take, slice_index}
use Rattle.boog_tree.specs.Sums.{total}
use Rattle.boog_area.proofs.area.sum_of_bounds.Given as goal

abbrev pub invariant-loop-root : goal.invariant-loop-root
invariant-loop-root l = record {
  sum : l.area ≡ total (slice_index l.bounds) (take l.root-index l.roots);
  fits : l.area ≤ 18446744073709551616 * l.root-index;
}
