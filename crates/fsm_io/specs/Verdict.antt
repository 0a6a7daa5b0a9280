-- What `check_fsm` answers of a text that was read.
use Rattle.std.specs.Prelude.{ℕ, List}
use Rattle.vlsi_base.specs.declared.pragma.Pragma.{Pragma}
use Rattle.vlsi_base.specs.declared.fault.ReadError.{ReadError}
use Rattle.vlsi_base.specs.declared.fault.ReadError.TheVariants as errors
use Rattle.fsm_machine.specs.Fsm.{Fsm}
use Rattle.fsm_text.specs.Written.{MachineTree}
use Rattle.fsm_io.specs.Known.{Named}
use Rattle.fsm_io.specs.Checks.{Passes, IsRefusedFor}
use Rattle.fsm_io.specs.Elaboration.{IsMachineOf}

-- as many as 32 bits can number
abbrev pub most_numbered : ℕ
most_numbered = 4294967295

-- the text passes all checks, and is this state machine
pub record IsPassed (m : MachineTree) (pragmas : List Pragma) (f : Fsm) : Type 0 where
  pub names : Named
  pub passes : Passes m pragmas names
  pub machine : IsMachineOf m names f

-- the first check that fails, or else the limit that is passed, refuses the text; of memory nothing is said
abbrev pub IsRefusedOrMemory : MachineTree → List Pragma → ReadError → Type 0
IsRefusedOrMemory m pragmas errors.Memory = Unit {0}
IsRefusedOrMemory m pragmas (errors.Input f) = IsRefusedFor m pragmas (errors.Input f)
IsRefusedOrMemory m pragmas (errors.Limit l) = IsRefusedFor m pragmas (errors.Limit l)
