-- What follows from the definitions of a text, and what doesn't hang on the bits that free ones are filled with.
use Rattle.std.specs.Prelude.{◌≡◌, ℕ, List, false, true}
use Rattle.vlsi_base.specs.declared.pragma.Pragma.{Pragma}
use Rattle.vlsi_base.specs.declared.fault.ReadError.{ReadError}
use Rattle.fsm_machine.specs.Fsm.{Fsm}
use Rattle.fsm_text.specs.Written.{MachineTree}
use Rattle.fsm_io.specs.Known.{Named}
use Rattle.fsm_io.specs.Checks.{IsRefusedFor}
use Rattle.fsm_io.specs.Elaboration.{IsMachineOf}
use Rattle.state_free.specs.Free.{AreFreeFsm}
use Rattle.fsm_free.specs.declared.reader.FsmSource.{FsmSource}
use Rattle.fsm_free.specs.Filled.{filled}
use Rattle.fsm_free.specs.Text.{IsSource, RefusedSource}

-- A text is refused with each free bit 1 exactly as with each 0.
abbrev pub RefusedAlike : Type 0
RefusedAlike = (m : MachineTree) (pragmas : List Pragma) (e : ReadError) → IsRefusedFor (filled true m) pragmas e → IsRefusedFor (filled false m) pragmas e

-- What it is with each free bit 0 and with each 1 agrees in all but these.
abbrev pub FilledAgree : Type 0
FilledAgree =
    (m : MachineTree) (n : Named) (low high : Fsm) → IsMachineOf (filled false m) n low → IsMachineOf (filled true m) n high → AreFreeFsm low high

-- A text is at most one state machine, or one whose outputs are left free in part.
abbrev pub OneSource : Type 0
OneSource = (bytes : List ℕ) (a b : FsmSource) → IsSource bytes a → IsSource bytes b → a ≡ b

-- A text that is one has no refusal.
abbrev pub NeverBothSource : Type 0
NeverBothSource = (bytes : List ℕ) (a : FsmSource) (e : ReadError) → IsSource bytes a → RefusedSource bytes e → ⊥

-- A text has at most one refusal.
abbrev pub OneRefusalSource : Type 0
OneRefusalSource = (bytes : List ℕ) (d e : ReadError) → RefusedSource bytes d → RefusedSource bytes e → d ≡ e
