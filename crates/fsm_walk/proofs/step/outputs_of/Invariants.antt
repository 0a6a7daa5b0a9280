use Rattle.fsm_walk.proofs.Giving.{GivenSoFar}
use Rattle.fsm_walk.proofs.step.outputs_of.Given as goal

abbrev pub invariant-loop-assignment : goal.invariant-loop-assignment
invariant-loop-assignment l = GivenSoFar l.bits l.outputs l.trail l.assignment-index l.outs.items
