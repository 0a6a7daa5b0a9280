-- Which texts are state machines as far as their grammar goes, and why others aren't.
use Rattle.std.specs.Prelude.{◌≡◌, ℕ, ◌+◌, ◌<◌, List, [], Ok, None, Some, codes}
use Rattle.vlsi_base.specs.declared.entity.Entity.{Entity}
use Rattle.vlsi_base.specs.declared.fault.LimitKind.TheVariants as limit
use Rattle.vlsi_base.specs.declared.fault.ReadError.{ReadError}
use Rattle.vlsi_base.specs.declared.fault.ReadError.TheVariants as errors
use Rattle.vhdl_token.specs.declared.token.Tokens.{Tokens}
use Rattle.grammar_theory.specs.declared.limits.TheConstants.{DEPTH, CHAIN}
use Rattle.grammar_theory.specs.declared.refusal.Refusal.{Refusal}
use Rattle.grammar_theory.specs.declared.refusal.Stop.{Stop}
use Rattle.grammar_theory.specs.declared.refusal.Stop.TheVariants as stop
use Rattle.grammar_theory.specs.Outcome.{At, start}
use Rattle.grammar_theory.specs.Answers.{Accepts, Rejects, AnswersAll}
use Rattle.vhdl_front.specs.Entity.{entity}
use Rattle.vhdl_front.specs.Front.{error_of}
use Rattle.source_checks.specs.declared.symbol_table.Symbol.{Symbol}
use Rattle.source_checks.specs.Checks.{first_repeated}
use Rattle.fsm_text.specs.Written.{MachineTree}
use Rattle.fsm_text.specs.Fsm.{fsm}
use Rattle.fsm_text.specs.Chains.{named_by, counted_symbols, overfull}

-- what is counted in a text with this entity
abbrev pub counted_in : Tokens → Entity → List Symbol
counted_in tokens e = counted_symbols e (named_by (codes "next_state") tokens.pragmas)

-- So many tokens are left at the first assignment that is one more than an output bit or the next state may have. (An entity that is
-- read declares each name once.)
pub record PassesChain (tokens : Tokens) (left : ℕ) : Type 0 where
  pub front : Entity
  pub behind : At
  pub read : Accepts (entity DEPTH) (start tokens.items) front behind
  pub once : first_repeated [] (counted_in tokens front) ≡ None
  pub place : overfull (counted_in tokens front) [] behind.rest ≡ Some left

-- there is one before only so many tokens are left
abbrev pub PassesBefore : Tokens → ℕ → Type 0
PassesBefore tokens left = (place : ℕ) × PassesChain tokens place × (left < place)

abbrev pub chain_error : ReadError
chain_error = errors.Limit (record { which = limit.Chain; reached = CHAIN + 1 })

-- All of the tokens are a sentence of the grammar without a breach, and this is its value.
pub record IsMachine (tokens : Tokens) (machine : MachineTree) : Type 0 where
  pub end : At
  pub read : AnswersAll fsm (start tokens.items) (Ok (machine, end))
  pub few : PassesBefore tokens 0 → ⊥

-- The first token at which the text goes wrong, or its end, and what is answered for it: a token that the grammar refuses, unless
-- an assignment before it is one too many.
pub data RefusedAs (tokens : Tokens) (e : ReadError) : Type 0 where
  refused : (r : Refusal) → Rejects fsm (start tokens.items) r → (PassesBefore tokens r.left → ⊥)
      → e ≡ error_of tokens.last_line tokens.items r → RefusedAs tokens e
  chained : (left : ℕ) → PassesChain tokens left → ((r : Refusal) → Rejects fsm (start tokens.items) r → r.left < left) → e ≡ chain_error → RefusedAs tokens e

-- Memory may run out at any time.
abbrev pub IsRefusedMachine : Tokens → ReadError → Type 0
IsRefusedMachine tokens errors.Memory = Unit {0}
IsRefusedMachine tokens (errors.Input f) = RefusedAs tokens (errors.Input f)
IsRefusedMachine tokens (errors.Limit l) = RefusedAs tokens (errors.Limit l)

-- a stop of the reader is a refusal of the text
abbrev pub StopsText : Tokens → Stop → Type 0
StopsText tokens stop.Memory = Unit {0}
StopsText tokens (stop.Refused r) = Rejects fsm (start tokens.items) r
