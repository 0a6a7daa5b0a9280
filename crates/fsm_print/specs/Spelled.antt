-- What is read of state machines can be written.
use Rattle.std.specs.Prelude.{◌≡◌, ℕ, ◌^◌, ◌<◌, List, length}
use Rattle.fsm_machine.specs.Fsm.{Fsm}
use Rattle.fsm_io.specs.Text.{IsFsm}
use Rattle.fsm_print.specs.Writable.{CanBeFsm}
use Rattle.fsm_print.specs.Written.{IsTextOf}

-- Each state machine that is read meets what its writer asks for.
abbrev pub FsmCanBeWritten : Type 0
FsmCanBeWritten = (bytes : List ℕ) (f : Fsm) → IsFsm bytes f → CanBeFsm f × (length f.ports < 2 ^ 32)

-- A state machine has one text.
abbrev pub OneText : Type 0
OneText = (f : Fsm) (a b : List ℕ) → IsTextOf f a → IsTextOf f b → a ≡ b
