-- When the tokens of a whole file are a pattern file, and where they aren't.
use Rattle.std.specs.Prelude.{◌≡◌, ℕ, List, [], Ok}
use Rattle.vlsi_base.specs.declared.fault.ReadError.{ReadError}
use Rattle.vlsi_base.specs.declared.fault.ReadError.TheVariants as errors
use Rattle.vhdl_token.specs.declared.token.PlacedToken.{PlacedToken}
use Rattle.vhdl_token.specs.declared.token.Tokens.{Tokens}
use Rattle.grammar_theory.specs.declared.refusal.Refusal.{Refusal}
use Rattle.grammar_theory.specs.Marks.{Item, State, uncounted, run}
use Rattle.grammar_theory.specs.Outcome.{start}
use Rattle.grammar_theory.specs.Answers.{tokens_of, Rejects}
use Rattle.vhdl_front.specs.Front.{line_left, syntax_on}
use Rattle.pat_text.specs.declared.parsed.PatternFile.{PatternFile}
use Rattle.pat_text.specs.Patterns.{file}

-- All of the tokens are a sentence of the grammar, in which each word and digit fits its place, and this is what is written.
pub record IsFile (ts : List PlacedToken) (parsed : PatternFile) : Type 0 where
  pub items : List Item
  pub all : ts ≡ tokens_of items
  pub sentence : file items parsed
  pub state : State
  pub fitting : run items uncounted ≡ Ok state

-- the refusal of the token from which on so many are left
abbrev pub syntax_for : Tokens → ℕ → ReadError
syntax_for text left = syntax_on (line_left text.last_line text.items left)

-- With the token on this line, or with the end where that is left, the tokens so far begin no pattern file.
pub record IsSyntaxFault (text : Tokens) (e : ReadError) : Type 0 where
  pub refusal : Refusal
  pub is : e ≡ syntax_for text refusal.left
  pub right : Rejects file (start text.items) refusal

-- the refusal of the first such token, or memory has run out
abbrev pub IsRefusal : Tokens → ReadError → Type 0
IsRefusal text errors.Memory = Unit {0}
IsRefusal text (errors.Input f) = IsSyntaxFault text (errors.Input f)
IsRefusal text (errors.Limit l) = IsSyntaxFault text (errors.Limit l)
