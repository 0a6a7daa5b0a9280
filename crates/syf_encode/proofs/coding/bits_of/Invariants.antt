use Rattle.std.proofs.Common.{◌≡◌, ◌++◌}
use Rattle.fsm_machine.specs.Encoding.{bits_of}
use Rattle.syf_encode.proofs.coding.bits_of.Given as goal

-- the bits so far, and behind them those of what is left
abbrev pub invariant-loop-left : goal.invariant-loop-left
invariant-loop-left l = l.bits.items ++ bits_of l.left l.rest ≡ bits_of l.width l.number

abbrev pub decreases-loop-left : goal.decreases-loop-left
decreases-loop-left l = l.left
