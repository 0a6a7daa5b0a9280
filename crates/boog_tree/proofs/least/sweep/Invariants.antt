use Rattle.std.proofs.Common.{◌≡◌, length, slice_index}
use Rattle.boog_tree.proofs.Steps.{ArePartsOf, Sweeping}
use Rattle.boog_tree.proofs.least.sweep.Given as goal

abbrev pub invariant-loop : goal.invariant-loop
invariant-loop l = record {
  many : length l.swept.parts.items ≡ l.counter;
  parts : ArePartsOf l.held l.graph (slice_index l.swept.bounds.items) l.swept.parts.items;
  swept : Sweeping l.cells l.areas l.held l.graph l.counter l.swept.picks.items l.swept.bounds.items;
}
