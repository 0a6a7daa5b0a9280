use Rattle.std.proofs.Common.{map, take}
use Rattle.nero_tracks.specs.Tracks.{AreMarks}
use Rattle.nero_tracks.proofs.columns.models_in_use.Given as goal

abbrev pub invariant-loop-node : goal.invariant-loop-node
invariant-loop-node l = AreMarks (map (λ i. i.model) (take l.node-index l.nodes)) l.count l.marks.items
