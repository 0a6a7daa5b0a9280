use Rattle.std.proofs.Common.{◌≡◌, take}
use Rattle.fmi_min.specs.Vectors.{picked}
use Rattle.fmi_min.proofs.vectors.picked.Given as goal

-- the bits so far
abbrev pub invariant-loop-k : goal.invariant-loop-k
invariant-loop-k l = l.bits.items ≡ picked l.clock (take l.k l.ports) (take l.k l.word)
