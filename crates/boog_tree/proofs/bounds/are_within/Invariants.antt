use Rattle.std.proofs.Common.{◌≡◌, ◌<◌, ℕ, length, slice_index}
use Rattle.boog_tree.proofs.Steps.{ArePartsOf, IsLow}
use Rattle.boog_tree.proofs.bounds.are_within.Given as goal

abbrev pub invariant-loop-number : goal.invariant-loop-number
invariant-loop-number l = record {
  many : length l.parts.items ≡ l.number;
  parts : ArePartsOf l.held l.graph (slice_index l.bounds) l.parts.items;
  low : (x : ℕ) → x < l.number → IsLow l.cells l.areas l.held l.graph l.bounds x;
}
