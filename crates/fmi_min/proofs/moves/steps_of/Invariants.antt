use Rattle.std.proofs.Common.{◌≡◌, map, take}
use Rattle.fsm_walk.specs.Step.{step_of}
use Rattle.fmi_min.proofs.moves.steps_of.Given as goal

-- the steps so far
abbrev pub invariant-loop-word : goal.invariant-loop-word
invariant-loop-word l = l.steps.items ≡ map (λ w. step_of l.machine.body l.outputs w l.state) (take l.word-index l.words)
