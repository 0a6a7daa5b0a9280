-- What a reader does with a list of tokens.
use Rattle.std.specs.Prelude.{◌≡◌, ℕ, zero, suc, List, [], ◌∷◌, ◌++◌, length, Result, Ok, Err, ◌==◌, if◌then◌else◌}
use Rattle.vhdl_token.specs.declared.token.PlacedToken.{PlacedToken}
use Rattle.grammar_theory.specs.declared.form.Form.{Form}
use Rattle.grammar_theory.specs.declared.refusal.Breach.{Breach}
use Rattle.grammar_theory.specs.declared.refusal.Reason.{Reason}
use Rattle.grammar_theory.specs.declared.refusal.Reason.TheVariants as reason
use Rattle.grammar_theory.specs.declared.refusal.Refusal.{Refusal}
use Rattle.grammar_theory.specs.declared.refusal.Stop.{Stop}
use Rattle.grammar_theory.specs.declared.refusal.Stop.TheVariants as stop
use Rattle.grammar_theory.specs.Tokens.{code, code_of, is_of, is_at, among}
use Rattle.grammar_theory.specs.Marks.{Mark, plain, State, uncounted, step}

-- what was counted so far, and the tokens that are left
pub record At : Type 0 where
  pub state : State
  pub rest : List PlacedToken

-- at the first of all tokens
abbrev pub start : List PlacedToken → At
start tokens = record { state = uncounted; rest = tokens }

-- the first of these tokens is refused
abbrev pub refusal : Reason → List PlacedToken → Refusal
refusal r ts = record { reason = r; left = length ts }

-- a value and what is left, or a refusal
abbrev pub Outcome : Type 0 → Type 0
Outcome A = Result (A × At) Refusal

abbrev pub Reader : Type 0 → Type 0
Reader A = At → Outcome A

infixl 10 ◌>>=◌
abbrev pub ◌>>=◌ : {A C : Type 0} → Outcome A → (A × At → Outcome C) → Outcome C
(Ok x) >>= f = f x
(Err e) >>= f = Err e

-- a token is taken, unless what it does is a breach
abbrev pub passed : PlacedToken → List PlacedToken → Result State Breach → Outcome PlacedToken
passed t ts (Ok s) = Ok (t, record { state = s; rest = ts })
passed t ts (Err b) = Err (refusal (reason.Breach b) (t ∷ ts))

abbrev pub take_from : Form → (PlacedToken → Mark) → State → List PlacedToken → Outcome PlacedToken
take_from k m s [] = Err (refusal reason.Syntax [])
take_from k m s (t ∷ ts) = if is_of k t then passed t ts (step (m t) s) else Err (refusal reason.Syntax (t ∷ ts))

abbrev pub take_marked : Form → (PlacedToken → Mark) → Reader PlacedToken
take_marked k m here = take_from k m here.state here.rest

abbrev pub take_at : Form → Reader PlacedToken
take_at k here = take_from k (λ _. plain) here.state here.rest

-- items as long as the next token is of one of these kinds
unfoldable pub many_at : {A : Type 0} → List ℕ → Reader A → ℕ → Reader (List A)
many_at kinds item zero here = Ok ([], here)
many_at kinds item (suc n) here = if among kinds here.rest then (do
  v ← item here
  vs ← many_at kinds item n v.1
  Ok (v.0 ∷ vs.0, vs.1)) else Ok ([], here)

unfoldable pub list_at : {A : Type 0} → List ℕ → Reader A → Reader (List A)
list_at kinds item here = many_at kinds item (length here.rest) here

-- the line of the next token; where there is none, 0
abbrev pub line_here : List PlacedToken → ℕ
line_here [] = 0
line_here (t ∷ ts) = t.line

-- what is read, with the line of its first token
unfoldable pub placed_at : {A : Type 0} → Reader A → Reader (ℕ × A)
placed_at read here = do
  v ← read here
  Ok ((line_here here.rest, v.0), v.1)

-- what was read before, and what is still read
abbrev pub with_front : {A : Type 0} → List A → Outcome (List A) → Outcome (List A)
with_front front read = read >>= λ x. Ok (front ++ x.0, x.1)

-- nothing may be left
abbrev pub finished : {A : Type 0} → A → State → List PlacedToken → Outcome A
finished v s [] = Ok (v, record { state = s; rest = [] })
finished v s (t ∷ ts) = Err (refusal reason.Syntax (t ∷ ts))

abbrev pub finish : {A : Type 0} → Outcome A → Outcome A
finish read = read >>= λ x. finished x.0 x.1.state x.1.rest

-- What a function returned, seen by view, and what it left are what reading gives, unless memory ran out.
abbrev pub Fails : {A : Type 0} → Stop → Outcome A → Type 0
Fails stop.Memory read = Unit {0}
Fails (stop.Refused r) read = read ≡ Err r

abbrev pub Gives : {X A : Type 0} → (X → A) → Result X Stop → At → Outcome A → Type 0
Gives view (Ok x) there read = read ≡ Ok (view x, there)
Gives view (Err e) there read = Fails e read
