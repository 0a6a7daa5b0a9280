use Rattle.std.proofs.Common.{map}
use Rattle.source_bits.specs.declared.driven.DrivenBit.{DrivenBit}
use Rattle.vlsi_model.proofs.NodeLemmas.{NodesSoFar}
use Rattle.vlsi_model.proofs.nodes.nodes.Given as goal

abbrev pub invariant-loop-k : goal.invariant-loop-k
invariant-loop-k l = NodesSoFar (map (λ (d : DrivenBit). d.bit) l.driven) l.nodes.items l.total l.k
