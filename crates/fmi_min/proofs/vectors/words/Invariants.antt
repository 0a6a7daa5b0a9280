use Rattle.std.proofs.Common.{◌≡◌, map}
use Rattle.fsm_machine.specs.MachineOf.{up}
use Rattle.fsm_walk.specs.Words.{word}
use Rattle.fmi_min.proofs.vectors.words.Given as goal

-- the words so far
abbrev pub invariant-loop-number : goal.invariant-loop-number
invariant-loop-number l = l.words.items ≡ map (word l.marks) (up 0 l.number)
