-- Which texts of bytes are state machines, and why others aren't.
use Rattle.std.specs.Prelude.{◌≡◌, ◌≤◌, ◌<◌, ℕ, ◌+◌, List, length, None, Some}
use Rattle.vlsi_base.specs.declared.limits.TheConstants.{MOST_SOURCE_BYTES}
use Rattle.vlsi_base.specs.declared.fault.LimitKind.TheVariants as kind
use Rattle.vlsi_base.specs.declared.fault.ReadError.{ReadError}
use Rattle.vlsi_base.specs.declared.fault.ReadError.TheVariants as errors
use Rattle.vhdl_lexer.specs.Listing.{tokens_in, refusal_in}
use Rattle.fsm_machine.specs.Fsm.{Fsm}
use Rattle.fsm_text.specs.Written.{MachineTree}
use Rattle.fsm_text.specs.Texts.{IsMachine, RefusedAs}
use Rattle.fsm_io.specs.Known.{Named}
use Rattle.fsm_io.specs.Checks.{Passes, IsRefusedFor}
use Rattle.fsm_io.specs.Elaboration.{IsMachineOf}

-- what is written, where the bytes are few enough and are cut into tokens
pub record IsWritten (bytes : List ℕ) (m : MachineTree) : Type 0 where
  pub few : length bytes ≤ MOST_SOURCE_BYTES
  pub cut : refusal_in bytes ≡ None
  pub machine : IsMachine (tokens_in bytes) m

-- The bytes are the text of a state machine that passes all checks, and this is the state machine.
pub record IsFsm (bytes : List ℕ) (f : Fsm) : Type 0 where
  pub tree : MachineTree
  pub names : Named
  pub written : IsWritten bytes tree
  pub passes : Passes tree (tokens_in bytes).pragmas names
  pub machine : IsMachineOf tree names f

-- Why bytes are no state machine, in this order: there are too many, they aren't cut into tokens, the tokens are no text, or a check
-- fails. Out of memory is no reason.
pub data Refused (bytes : List ℕ) (e : ReadError) : Type 0 where
  long : MOST_SOURCE_BYTES < length bytes → e ≡ errors.Limit (record { which = kind.File; reached = MOST_SOURCE_BYTES + 1 }) → Refused bytes e
  uncut : length bytes ≤ MOST_SOURCE_BYTES → refusal_in bytes ≡ Some e → Refused bytes e
  unwritten : length bytes ≤ MOST_SOURCE_BYTES → refusal_in bytes ≡ None → RefusedAs (tokens_in bytes) e → Refused bytes e
  faulty : (m : MachineTree) → IsWritten bytes m → IsRefusedFor m (tokens_in bytes).pragmas e → Refused bytes e

-- the refusal, or memory has run out
abbrev pub IsFsmRefusal : List ℕ → ReadError → Type 0
IsFsmRefusal bytes errors.Memory = Unit {0}
IsFsmRefusal bytes (errors.Input f) = Refused bytes (errors.Input f)
IsFsmRefusal bytes (errors.Limit l) = Refused bytes (errors.Limit l)
