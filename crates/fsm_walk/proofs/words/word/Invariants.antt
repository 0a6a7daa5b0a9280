use Rattle.std.proofs.Common.{◌≡◌, ◌++◌, drop}
use Rattle.fsm_walk.specs.Words.{word}
use Rattle.fsm_walk.proofs.words.word.Given as goal

abbrev pub invariant-loop-mark : goal.invariant-loop-mark
invariant-loop-mark l = l.bits.items ++ word (drop l.mark-index l.marks) l.rest ≡ word l.marks l.number
