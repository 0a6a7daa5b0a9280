-- Tokens that spell a value, and what is counted behind them.
use Rattle.std.specs.Prelude.{◌≡◌, List, [], Ok, None}
use Rattle.vhdl_token.specs.declared.token.PlacedToken.{PlacedToken}
use Rattle.lexer_base.specs.declared.piece.Piece.{Piece}
use Rattle.lexer_base.specs.Listing.{tokens_from, refusal_from}
use Rattle.grammar_theory.specs.Marks.{Item, State, uncounted, run}
use Rattle.grammar_theory.specs.Grammar.{Grammar}
use Rattle.grammar_theory.specs.Outcome.{Outcome, start}
use Rattle.grammar_theory.specs.Answers.{tokens_of, AnswersAll}
use Rattle.grammar_theory.specs.Unique.{OneAnswerToAll}

-- The tokens are a sentence of the grammar with this value, and none is a breach: from `old` on they count to `new`.
pub record Spells {A : Type 0} (G : Grammar A) (value : A) (tokens : List PlacedToken) (old new : State) : Type 0 where
  pub items : List Item
  pub are : tokens_of items ≡ tokens
  pub sentence : G items value
  pub clean : run items old ≡ Ok new

-- Where tokens spell a value, and one answer is right, it is this value, and nothing is left.
abbrev pub SpelledIsTheAnswer : Type 1
SpelledIsTheAnswer =
    (A : Type 0) (G : Grammar A) (value : A) (tokens : List PlacedToken) (new : State)
    → Spells G value tokens uncounted new → OneAnswerToAll G
    → (y : Outcome A) → AnswersAll G (start tokens) y → y ≡ Ok (value, record { state = new; rest = [] })

-- Pieces without a refusal, of whose tokens one answer is right: this value, with nothing left.
pub record IsReadAgain {A : Type 0} (G : Grammar A) (value : A) (new : State) (ps : List Piece) : Type 0 where
  pub cut : refusal_from 1 ps ≡ None
  pub read : (y : Outcome A) → AnswersAll G (start (tokens_from 1 ps)) y → y ≡ Ok (value, record { state = new; rest = [] })
