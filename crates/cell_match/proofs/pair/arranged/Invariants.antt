use Rattle.std.proofs.Common.{◌≡◌, map, take, slice_index}
use Rattle.cell_match.proofs.pair.arranged.Given as goal

abbrev pub invariant-loop-place : goal.invariant-loop-place
invariant-loop-place l = l.leaves.items ≡ map (slice_index l.nodes) (take l.place-index l.order)
