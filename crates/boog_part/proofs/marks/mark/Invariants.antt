use Rattle.std.proofs.Common.{◌↔◌, ◌⊎◌, ◌<◌, ℕ, take}
use Rattle.cell_match.specs.Places.{times}
use Rattle.boog_part.specs.Part.{IsMarked}
use Rattle.boog_part.proofs.marks.mark.Given as goal

abbrev pub invariant-loop-number : goal.invariant-loop-number
invariant-loop-number l = (x : ℕ) → IsMarked l.marks x ↔ (IsMarked l.initial.marks x ⊎ (0 < times x (take l.number-index l.numbers)))
