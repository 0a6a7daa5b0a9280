use Rattle.std.proofs.Common.{◌≡◌, map, take}
use Rattle.fmi_min.specs.Vectors.{picked}
use Rattle.fmi_min.proofs.vectors.vectors.Given as goal

-- the vectors so far
abbrev pub invariant-loop-word : goal.invariant-loop-word
invariant-loop-word l = l.vectors.items ≡ map (picked l.machine.clock l.machine.ports) (take l.word-index l.words)
