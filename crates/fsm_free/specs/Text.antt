-- Which texts of bytes are state machines whose outputs are left free in part, and why others aren't.
use Rattle.std.specs.Prelude.{◌≡◌, ◌≤◌, ℕ, Bool, true, false, List, length, None}
use Rattle.vlsi_base.specs.declared.limits.TheConstants.{MOST_SOURCE_BYTES}
use Rattle.vlsi_base.specs.declared.fault.ReadError.{ReadError}
use Rattle.vlsi_base.specs.declared.fault.ReadError.TheVariants as errors
use Rattle.vhdl_lexer.specs.Listing.{tokens_in, refusal_in}
use Rattle.fsm_text.specs.Written.{MachineTree}
use Rattle.fsm_text.specs.Texts.{IsMachine, RefusedAs}
use Rattle.fsm_io.specs.Known.{Named}
use Rattle.fsm_io.specs.Checks.{Passes, IsRefusedFor}
use Rattle.fsm_io.specs.Elaboration.{IsMachineOf}
use Rattle.fsm_io.specs.Text.{IsFsm, Refused}
use Rattle.state_free.specs.declared.state_machine.FreeStateMachine.{FreeStateMachine}
use Rattle.state_free.specs.Free.{AreFreeFsm}
use Rattle.fsm_free.specs.declared.reader.FsmSource.{FsmSource}
use Rattle.fsm_free.specs.declared.reader.FsmSource.TheVariants as source
use Rattle.fsm_free.specs.Tokens.{with_operands, leaves_free}
use Rattle.fsm_free.specs.Filled.{filled}

-- what is written, where the bytes are few enough and are cut into tokens
pub record IsFreeWritten (bytes : List ℕ) (m : MachineTree) : Type 0 where
  pub few : length bytes ≤ MOST_SOURCE_BYTES
  pub cut : refusal_in bytes ≡ None
  pub machine : IsMachine (with_operands (tokens_in bytes)) m

-- The bytes are the text of a state machine that passes all checks with each free bit 0, so that each is assigned to an output bit; and
-- these are the state machines with each free bit 0 and with each 1.
pub record IsFreeFsm (bytes : List ℕ) (f : FreeStateMachine) : Type 0 where
  pub tree : MachineTree
  pub names : Named
  pub written : IsFreeWritten bytes tree
  pub passes : Passes (filled false tree) (tokens_in bytes).pragmas names
  pub low : IsMachineOf (filled false tree) names f.low
  pub high : IsMachineOf (filled true tree) names f.high
  pub agree : AreFreeFsm f.low f.high

-- Why bytes that are few enough and are cut into tokens are no such state machine: the tokens are no text, or else a check of the text
-- with each free bit 0 fails. Out of memory is no reason.
pub data RefusedFree (bytes : List ℕ) (e : ReadError) : Type 0 where
  unwritten : length bytes ≤ MOST_SOURCE_BYTES → refusal_in bytes ≡ None → RefusedAs (with_operands (tokens_in bytes)) e → RefusedFree bytes e
  faulty : (m : MachineTree) → IsFreeWritten bytes m → IsRefusedFor (filled false m) (tokens_in bytes).pragmas e → RefusedFree bytes e

-- the refusal, or memory has run out
abbrev pub IsFreeRefusal : List ℕ → ReadError → Type 0
IsFreeRefusal bytes errors.Memory = Unit {0}
IsFreeRefusal bytes (errors.Input f) = RefusedFree bytes (errors.Input f)
IsFreeRefusal bytes (errors.Limit l) = RefusedFree bytes (errors.Limit l)

-- what a text is: where it leaves nothing free, one state machine
abbrev pub IsSource : List ℕ → FsmSource → Type 0
IsSource bytes (source.Fixed f) = (leaves_free bytes ≡ false) × IsFsm bytes f
IsSource bytes (source.Free f) = (leaves_free bytes ≡ true) × IsFreeFsm bytes f

pub data RefusedSource (bytes : List ℕ) (e : ReadError) : Type 0 where
  fixed : leaves_free bytes ≡ false → Refused bytes e → RefusedSource bytes e
  free : leaves_free bytes ≡ true → RefusedFree bytes e → RefusedSource bytes e

-- the refusal, or memory has run out
abbrev pub IsSourceRefusal : List ℕ → ReadError → Type 0
IsSourceRefusal bytes errors.Memory = Unit {0}
IsSourceRefusal bytes (errors.Input f) = RefusedSource bytes (errors.Input f)
IsSourceRefusal bytes (errors.Limit l) = RefusedSource bytes (errors.Limit l)
