-- What the code holds on its way.
use Rattle.std.specs.Prelude.{◌≡◌, ◌≤◌, ◌<◌, ◌^◌, ℕ, Bool, true, false, List, [], ◌∷◌, length, None}
use Rattle.vlsi_base.specs.Tree.{Tree, view}
use Rattle.vlsi_base.specs.declared.limits.TheConstants.{MOST_SOURCE_BYTES}
use Rattle.vlsi_base.specs.declared.pragma.Pragma.{Pragma}
use Rattle.vlsi_base.specs.declared.fault.ReadError.{ReadError}
use Rattle.vlsi_base.specs.declared.fault.ReadError.TheVariants as errors
use Rattle.vhdl_token.specs.declared.token.PlacedToken.{PlacedToken}
use Rattle.vhdl_token.specs.declared.token.Tokens.{Tokens}
use Rattle.vhdl_lexer.specs.Listing.{tokens_in, refusal_in}
use Rattle.free_tokens.specs.Tokens.{operand}
use Rattle.source_checks.specs.Symbols.{all_names}
use Rattle.fsm_text.specs.Written.{BodyTree, PartTree, BranchTree, MachineTree, body_view}
use Rattle.fsm_text.specs.Short.{HasShortExpressions}
use Rattle.fsm_text.specs.Texts.{IsMachine, RefusedAs}
use Rattle.fsm_io.specs.Known.{Named, symbols}
use Rattle.fsm_io.specs.Checks.{Passes, IsRefusedFor}
use Rattle.fsm_io.specs.Elaboration.{IsMachineOf}
use Rattle.fsm_io.specs.Listed.{HasStates}
use Rattle.fsm_io.specs.Verdict.{most_numbered}
use Rattle.state_free.specs.declared.state_machine.FreeStateMachine.{FreeStateMachine}
use Rattle.state_free.specs.Free.{AreFreeFsm}
use Rattle.fsm_free.specs.declared.tokens.Place.{Place}
use Rattle.fsm_free.specs.declared.pieces.Part.{Part}
use Rattle.fsm_free.specs.declared.pieces.Branch.{Branch}
use Rattle.fsm_free.specs.Tokens.{begins_value, place_after, behind_free}
use Rattle.fsm_free.specs.Filled.{filled_body, filled}

-- ---- tokens

-- what is read of the next tokens, with what is read of those behind them: a free bit, or the first of them as it is
abbrev pub next_read : Bool → List PlacedToken → List PlacedToken → List PlacedToken
next_read true (t ∷ u ∷ v ∷ rest) read = operand t.line ∷ behind_free rest read
next_read false (t ∷ _) read = t ∷ read
next_read _ _ read = read

-- whether a value begins behind the next tokens
abbrev pub begins_next : Place → Bool → List PlacedToken → Bool
begins_next here true tokens = false
begins_next here false [] = false
begins_next here false (t ∷ _) = begins_value here t

-- where what is behind the next tokens stands
abbrev pub place_next : Place → Bool → List PlacedToken → Place
place_next here true tokens = here
place_next here false [] = here
place_next here false (t ∷ _) = place_after here t

-- ---- statements

abbrev pub part_view : Part → PartTree
part_view p = record { line = p.line; condition = view p.condition; body = body_view p.body }

abbrev pub branch_view : Branch → BranchTree
branch_view b = record { states = b.states; body = body_view b.body }

-- a condition, and what is done where it is 1
abbrev pub filled_part : Bool → ℕ → Tree → BodyTree → PartTree
filled_part b line condition body = record { line = line; condition = condition; body = filled_body b body }

-- ---- texts

-- why the tokens are no state machine with each free bit 0
pub data RefusedFilled (tokens : Tokens) (e : ReadError) : Type 0 where
  unwritten : RefusedAs tokens e → RefusedFilled tokens e
  faulty : (m : MachineTree) → IsMachine tokens m → IsRefusedFor (filled false m) tokens.pragmas e → RefusedFilled tokens e

-- the same, or memory has run out
abbrev pub IsFilledRefusal : Tokens → ReadError → Type 0
IsFilledRefusal tokens errors.Memory = Unit {0}
IsFilledRefusal tokens (errors.Input f) = RefusedFilled tokens (errors.Input f)
IsFilledRefusal tokens (errors.Limit l) = RefusedFilled tokens (errors.Limit l)

-- no check fails with each free bit 0, and these are the state machines with each 0 and with each 1
pub record AreBoth (m : MachineTree) (pragmas : List Pragma) (f : FreeStateMachine) : Type 0 where
  pub names : Named
  pub passes : Passes (filled false m) pragmas names
  pub low : IsMachineOf (filled false m) names f.low
  pub high : IsMachineOf (filled true m) names f.high
  pub agree : AreFreeFsm f.low f.high

-- the text with these statements in place of its own
abbrev pub with_body : MachineTree → BodyTree → MachineTree
with_body m body = record m { step = record m.step { body = body } }

-- what `check_fsm` of `fsm_io` asks of a text
pub record MayBeChecked (m : MachineTree) : Type 0 where
  pub some_state : 0 < length m.states.states
  pub few_bits : length (all_names (symbols m)) < 2 ^ 32
  pub few : length m.states.states ≤ most_numbered
  pub listed : HasStates m.step.body
  pub short : HasShortExpressions m

-- these are the tokens of a text that isn't too long
pub record AreTokens (bytes : List ℕ) (tokens : Tokens) : Type 0 where
  pub few : length bytes ≤ MOST_SOURCE_BYTES
  pub cut : refusal_in bytes ≡ None
  pub are : tokens ≡ tokens_in bytes

-- the tokens are a text that passes all checks with each free bit 0, and these are the state machines with each 0 and with each 1
abbrev pub AreFilled : Tokens → FreeStateMachine → Type 0
AreFilled tokens f = (m : MachineTree) × IsMachine tokens m × AreBoth m tokens.pragmas f
