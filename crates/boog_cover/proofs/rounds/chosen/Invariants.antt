use Rattle.std.proofs.Common.{map}
use Rattle.boog_cover.specs.Choices.{AreChosen}
use Rattle.boog_cover.proofs.rounds.chosen.Given as goal

abbrev pub invariant-loop-round : goal.invariant-loop-round
invariant-loop-round g l = AreChosen l.cells l.held l.graph.nodes (map (λ v. v.items) l.cuts.cuts.items) l.gates.items
