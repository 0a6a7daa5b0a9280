use Rattle.proof_joint.proofs.Descent.{AreApart}
use Rattle.proof_joint.proofs.differing.differing_bits.Given as goal

abbrev pub invariant-loop-variable : goal.invariant-loop-variable
invariant-loop-variable l = AreApart l.diagrams l.fn.first l.fn.second l.root l.other l.variable l.bits.items
