use Rattle.std.proofs.Common.{take}
use Rattle.boog_cover.specs.Lesser.{ReadMarked}
use Rattle.boog_cover.proofs.lesser.are_marked.Given as goal

abbrev pub invariant-loop-gate : goal.invariant-loop-gate
invariant-loop-gate l = ReadMarked (take l.gate-index l.gates) l.marks
