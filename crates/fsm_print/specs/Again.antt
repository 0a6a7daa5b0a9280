-- What is written of a state machine is read again.
use Rattle.std.specs.Prelude.{◌≡◌}
use Rattle.vlsi_base.specs.declared.fault.ReadError.{ReadError}
use Rattle.vlsi_base.specs.declared.fault.ReadError.TheVariants as errors
use Rattle.fsm_machine.specs.Fsm.{Fsm}
use Rattle.fsm_core.specs.Checked.{IsCheckedFsm}
use Rattle.fsm_io.specs.Text.{IsFsm, IsFsmRefusal}
use Rattle.fsm_print.specs.declared.words.Words.{Words}
use Rattle.fsm_print.specs.Writable.{CanBeFsm}
use Rattle.fsm_print.specs.Written.{AreWords, text}
use Rattle.fsm_print.specs.Said.{IsWithinLimits}

-- What the text of a checked state machine that can be written is read as, within the limits of texts, is the same state machine, with
-- all its parts.
pub record FsmReadAgain : Type 0 where
  pub is : (f g : Fsm) (w : Words) → IsCheckedFsm f → CanBeFsm f → AreWords f w → IsWithinLimits w f → IsFsm (text w f) g → g ≡ f

-- And it is read: the text is cut into tokens, is a sentence of the grammar and passes all checks, so it is refused only where memory
-- has run out.
pub record FsmIsAccepted : Type 0 where
  pub read : (f : Fsm) (w : Words) → IsCheckedFsm f → CanBeFsm f → AreWords f w → IsWithinLimits w f → IsFsm (text w f) f
  pub accepted : (f : Fsm) (w : Words) (e : ReadError) → IsCheckedFsm f → CanBeFsm f → AreWords f w → IsWithinLimits w f → IsFsmRefusal (text w f) e → e ≡ errors.Memory
