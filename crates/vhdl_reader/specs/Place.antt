-- Where a reader stands, by what it has read.
use Rattle.std.specs.Prelude.{◌≡◌, ℕ, ◌-◌, List, [], ◌∷◌, drop, length, Option, IfSome, IsOk, Ok, Err}
use Rattle.vhdl_token.specs.declared.token.PlacedToken.{PlacedToken}
use Rattle.grammar_theory.specs.Outcome.{At, Outcome, start}
use Rattle.vhdl_front.specs.Cursor.{at_first, rest_of}
use Rattle.vhdl_front.specs.Reading.{expression_at}
use Rattle.vhdl_front.specs.EntityReading.{entity_at, declarations_at}
use Rattle.vhdl_reader.specs.declared.done.Kind.{Kind}
use Rattle.vhdl_reader.specs.declared.done.Kind.TheVariants as kind
use Rattle.vhdl_reader.specs.declared.done.Step.{Step}

-- tokens are passed over until so many are left
abbrev pub with_left : ℕ → At → At
with_left left here = record { state = here.state; rest = drop (length here.rest - left) here.rest }

-- the next token is passed over
abbrev pub behind_token : At → At
behind_token here = record { state = here.state; rest = rest_of here.rest }

-- behind what is read; before what is refused
abbrev pub behind : {A : Type 0} → At → Outcome A → At
behind here (Ok v) = v.1
behind here (Err r) = here

abbrev pub behind_read : Kind → ℕ → At → At
behind_read kind.Expression room here = behind here (expression_at room (at_first here))
behind_read kind.Entity room here = behind here (entity_at room here)
behind_read kind.Declarations room here = behind here (declarations_at room here)

abbrev pub behind_step : Step → At → At
behind_step s here = behind_read s.kind s.room (with_left s.left here)

-- what is read, where so many parentheses more might be open, is accepted
abbrev pub IsAccepted : Kind → ℕ → At → Type 0
IsAccepted kind.Expression room here = IsOk (expression_at room (at_first here))
IsAccepted kind.Entity room here = IsOk (entity_at room here)
IsAccepted kind.Declarations room here = IsOk (declarations_at room here)

-- the step is accepted from where it begins
abbrev pub IsAcceptedStep : Step → At → Type 0
IsAcceptedStep s here = IsAccepted s.kind s.room (with_left s.left here)

-- each of the steps is, the next from behind the one before it
abbrev pub AreAccepted : List Step → At → Type 0
AreAccepted [] here = Unit {0}
AreAccepted (s ∷ done) here = IsAcceptedStep s here × AreAccepted done (behind_step s here)

-- behind all that was read
abbrev pub place : List Step → At → At
place [] here = here
place (s ∷ done) here = place done (behind_step s here)

-- the place of a reader of these tokens that has read this, before these of the tokens
abbrev pub stands : List PlacedToken → List Step → List PlacedToken → At
stands tokens done rest = record { state = (place done (start tokens)).state; rest = rest }

-- What was read was accepted, the tokens that are left are the last of those behind it, and a cursor that is at hand stands there.
pub record IsStanding (tokens : List PlacedToken) (done : List Step) (rest : List PlacedToken) (cursor : Option At) : Type 0 where
  pub accepted : AreAccepted done (start tokens)
  pub left : stands tokens done rest ≡ with_left (length rest) (place done (start tokens))
  pub live : IfSome cursor (λ c. c ≡ stands tokens done rest)
