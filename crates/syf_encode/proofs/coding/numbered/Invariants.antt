use Rattle.std.proofs.Common.{◌≡◌, map, take}
use Rattle.fsm_machine.specs.Encoding.{bits_of}
use Rattle.syf_encode.proofs.coding.numbered.Given as goal

abbrev pub invariant-loop-number : goal.invariant-loop-number
invariant-loop-number l = l.codes.items ≡ map (bits_of l.width) (take l.number-index l.numbers)
