-- When a state machine isn't minimised.
use Rattle.std.specs.Prelude.{◌≡◌, ◌<◌}
use Rattle.fsm_machine.specs.Fsm.{Fsm}
use Rattle.fsm_walk.specs.Reads.{inputs_read}
use Rattle.fmi_min.specs.declared.error.MinError.{MinError}
use Rattle.fmi_min.specs.declared.error.MinError.TheVariants as error
use Rattle.fmi_min.specs.declared.vectors.TheConstants.{MOST_INPUTS}

-- memory has run out, or the body reads too many input bits, and this is their number
abbrev pub IsRefused : Fsm → MinError → Type 0
IsRefused f error.Memory = Unit {0}
IsRefused f (error.Inputs n) = (n ≡ inputs_read f) × (MOST_INPUTS < n)
