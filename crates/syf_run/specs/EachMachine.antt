-- What is read of state machines can be made machines. That a text is made only one by a style is said where that is defined.
use Rattle.std.specs.Prelude.{ℕ, List}
use Rattle.machine_core.specs.Machine.{Machine}
use Rattle.fsm_machine.specs.Fsm.{Fsm}
use Rattle.fsm_machine.specs.Codes.{Codes}
use Rattle.fsm_io.specs.Text.{IsFsm}
use Rattle.syf_encode.specs.declared.style.Style.{Style}
use Rattle.syf_run.specs.Syf.{IsEncodedSource}

-- By each style there are codes of the states of a text's state machine, and a machine that it is made.
abbrev pub EncodedExists : Type 0
EncodedExists = (source : List ℕ) (how : Style) (f : Fsm) → IsFsm source f → (c : Codes) × (m : Machine) × IsEncodedSource source how f c m
