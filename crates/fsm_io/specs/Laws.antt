-- What follows from the definitions of a text and of its refusals.
use Rattle.std.specs.Prelude.{◌≡◌, ℕ, List}
use Rattle.vlsi_base.specs.declared.fault.ReadError.{ReadError}
use Rattle.fsm_machine.specs.Fsm.{Fsm}
use Rattle.fsm_io.specs.Text.{IsFsm, Refused}
use Rattle.fsm_core.specs.Checked.{IsCheckedFsm}

-- A text is at most one state machine.
abbrev pub OneFsm : Type 0
OneFsm = (bytes : List ℕ) (f g : Fsm) → IsFsm bytes f → IsFsm bytes g → f ≡ g

-- A text that is a state machine has no refusal.
abbrev pub NeverBoth : Type 0
NeverBoth = (bytes : List ℕ) (f : Fsm) (e : ReadError) → IsFsm bytes f → Refused bytes e → ⊥

-- A text has at most one refusal.
abbrev pub OneRefusal : Type 0
OneRefusal = (bytes : List ℕ) (d e : ReadError) → Refused bytes d → Refused bytes e → d ≡ e

-- What passes the checks can be encoded: its branches list known states once, and every state assigns everything.
abbrev pub FsmIsChecked : Type 0
FsmIsChecked = (bytes : List ℕ) (f : Fsm) → IsFsm bytes f → IsCheckedFsm f
