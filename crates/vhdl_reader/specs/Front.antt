-- What a reader of tokens is, as its callers see it, and when its answers are right.
use Rattle.std.specs.Prelude.{◌≡◌, ◌≢◌, ℕ, ◌+◌, List, [], ◌∷◌, Option, None, Some, Result, Ok, Err}
use Rattle.vlsi_base.specs.declared.pragma.Pragma.{Pragma}
use Rattle.vlsi_base.specs.declared.fault.ReadError.{ReadError}
use Rattle.vlsi_base.specs.declared.fault.ReadError.TheVariants as errors
use Rattle.vlsi_base.specs.declared.fault.LimitKind.TheVariants as limit
use Rattle.vhdl_token.specs.declared.token.Token.{Token}
use Rattle.vhdl_token.specs.declared.token.PlacedToken.{PlacedToken}
use Rattle.grammar_theory.specs.declared.limits.TheConstants.{DEPTH}
use Rattle.grammar_theory.specs.declared.refusal.Refusal.{Refusal}
use Rattle.grammar_theory.specs.Grammar.{Grammar}
use Rattle.grammar_theory.specs.Outcome.{At}
use Rattle.grammar_theory.specs.Answers.{Accepts, Refuses}
use Rattle.vhdl_front.specs.Front.{error_of, OrMemory}

-- what was counted so far and the tokens that are left, how many parentheses, ifs and cases more may be open, the last
-- line, the pragmas, and what is answered from now on
pub record Front : Type 0 where
  pub here : At
  pub room : ℕ
  pub last_line : ℕ
  pub pragmas : List Pragma
  pub refused : Option ReadError

-- ---- refusals

-- a refusal that is right, and the answer for it
pub record RefusedAs {A : Type 0} (G : Grammar A) (last : ℕ) (here : At) (e : ReadError) : Type 0 where
  pub refusal : Refusal
  pub is : e ≡ error_of last here.rest refusal
  pub right : Refuses G here refusal

-- memory ran out, or the answer is a refusal that is right
abbrev pub IsRefusal : {A : Type 0} → Grammar A → ℕ → At → ReadError → Type 0
IsRefusal G last here errors.Memory = Unit {0}
IsRefusal G last here (errors.Input f) = RefusedAs G last here (errors.Input f)
IsRefusal G last here (errors.Limit l) = RefusedAs G last here (errors.Limit l)

-- where memory ran out, nothing has changed; a refusal is answered from now on, and nothing else has changed
abbrev pub Keeps : Front → ReadError → Front → Type 0
Keeps old errors.Memory new = new ≡ old
Keeps old (errors.Input f) new = new ≡ record old { refused = Some (errors.Input f) }
Keeps old (errors.Limit l) new = new ≡ record old { refused = Some (errors.Limit l) }

-- the refusal that is kept, which isn't want of memory, again, unless memory runs out for it
abbrev pub Again : {X : Type 0} → ReadError → Result X ReadError → Type 0
Again k (Ok x) = ⊥
Again k (Err e) = (k ≢ errors.Memory) × OrMemory k e

-- the refusal where no more parentheses, ifs and cases may be open
abbrev pub too_deep : ReadError
too_deep = errors.Limit (record { which = limit.Depth; reached = DEPTH + 1 })

-- ---- reading

-- What a call did is right: a sentence was read, or the refusal of a token is answered, and kept, or memory ran out, and
-- nothing has changed.
abbrev pub IsRead : {X A : Type 0} → (X → A) → Grammar A → At → Front → Result X ReadError → Front → Type 0
IsRead view G here old (Ok x) new = Accepts G here (view x) new.here × (new ≡ record old { here = new.here })
IsRead view G here old (Err e) new = IsRefusal G old.last_line here e × Keeps old e new

-- the next token, unless the reader has refused
abbrev pub next_token : List PlacedToken → Option ReadError → Option Token
next_token [] refused = None
next_token (t ∷ ts) None = Some t.token
next_token (t ∷ ts) (Some e) = None
