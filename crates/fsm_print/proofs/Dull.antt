-- Tokens among which no assignment begins: a target with `<=` behind it doesn't stand in front of them.
use Rattle.std.proofs.Common.{◌≡◌, ℕ, Bool, true, false, List, [], ◌∷◌, ◌++◌, length, Option, None, Some, Result, Ok, Err, if◌then◌else◌, refl, sym, ap, ◌∙◌}
use Rattle.vhdl_token.specs.declared.keyword.Keyword.TheVariants as word
use Rattle.vhdl_token.specs.declared.token.PlacedToken.{PlacedToken}
use Rattle.vhdl_token.specs.declared.token.Sign.TheVariants as sign
use Rattle.grammar_theory.specs.declared.form.Form.{Form}
use Rattle.grammar_theory.specs.declared.form.Form.TheVariants as form
use Rattle.grammar_theory.specs.declared.limits.TheConstants.{DEPTH}
use Rattle.grammar_theory.specs.declared.refusal.Breach.{Breach}
use Rattle.grammar_theory.specs.declared.refusal.Reason.TheVariants as reason
use Rattle.grammar_theory.specs.Tokens.{is_of, is_at}
use Rattle.grammar_theory.specs.Marks.{Mark, plain, opens, State, step}
use Rattle.grammar_theory.specs.Outcome.{At, Outcome, Reader, ◌>>=◌, refusal, start, passed, take_from, take_at, take_marked}
use Rattle.vhdl_front.specs.Cursor.{number_of}
use Rattle.vhdl_front.specs.Reading.{number_at, direction_at, closing_at}
use Rattle.vlsi_base.specs.declared.name.Name.{Name}
use Rattle.source_checks.specs.declared.statement.Selection.TheVariants as selection
use Rattle.source_checks.specs.declared.statement.Target.{Target}
use Rattle.source_checks.specs.declared.symbol_table.Symbol.{Symbol}
use Rattle.vbe_text.specs.VbeReading.{range_at, selected_at, opened_at, selecting_at, target_behind_at, target_at}
use Rattle.fsm_text.specs.Chains.{assigned_here, behind_target, overfull}

-- a token that ends targets and is no `<=`
pub record IsStop (t : PlacedToken) : Type 0 where
  pub assign : is_of (form.Sign sign.Assign) t ≡ false
  pub name : is_of form.Identifier t ≡ false
  pub number : is_of form.Number t ≡ false
  pub opens : is_of (form.Sign sign.LeftParen) t ≡ false
  pub close : is_of (form.Sign sign.RightParen) t ≡ false
  pub falls : is_of (form.Keyword word.Downto) t ≡ false
  pub rises : is_of (form.Keyword word.To) t ≡ false

-- no `<=` up to a token that ends targets
pub data Dull : List PlacedToken → Type 0 where
  stops : (t : PlacedToken) (rest : List PlacedToken) → IsStop t → Dull (t ∷ rest)
  goes : (t : PlacedToken) (rest : List PlacedToken) → is_of (form.Sign sign.Assign) t ≡ false → Dull rest → Dull (t ∷ rest)

not_assign : (ts : List PlacedToken) → Dull ts → is_at (form.Sign sign.Assign) ts ≡ false
not_assign (t ∷ rest) (stops u us s) = s.assign
not_assign (t ∷ rest) (goes u us a d) = a
not_assign [] d = elim d [ ]

-- the forms of which targets are made
data InTarget : Form → Type 0 where
  in_name : InTarget form.Identifier
  in_number : InTarget form.Number
  in_open : InTarget (form.Sign sign.LeftParen)
  in_close : InTarget (form.Sign sign.RightParen)
  in_falls : InTarget (form.Keyword word.Downto)
  in_rises : InTarget (form.Keyword word.To)

stopped : (k : Form) (t : PlacedToken) → InTarget k → IsStop t → is_of k t ≡ false
stopped k t in_name s = s.name
stopped k t in_number s = s.number
stopped k t in_open s = s.opens
stopped k t in_close s = s.close
stopped k t in_falls s = s.falls
stopped k t in_rises s = s.rises

behind : (k : Form) (t : PlacedToken) (rest : List PlacedToken) → InTarget k → is_of k t ≡ true → Dull (t ∷ rest) → Dull rest
behind k t rest i is (stops u us s) = let no = stopped k t i s in let never : true ≡ false = sym is ∙ no in absurd cc
behind k t rest i is (goes u us a d) = d

-- what is read of such tokens leaves such tokens
abbrev Keeps : {A : Type 0} → Outcome A → Type 0
Keeps {A} (Ok x) = Dull x.1.rest
Keeps {A} (Err r) = Unit {0}

abbrev Safe : {A : Type 0} → Reader A → Type 0
Safe {A} read = (here : At) → Dull here.rest → Keeps (read here)

safe_take : (k : Form) (m : PlacedToken → Mark) → InTarget k → Safe (take_marked k m)
safe_take k m i here d = by here.state here.rest d where
  done : (t : PlacedToken) (rest : List PlacedToken) → Dull rest → (r : Result State Breach) → Keeps (passed t rest r)
  done t rest d (Ok s) = d
  done t rest d (Err b) = tt

  tested : (t : PlacedToken) (rest : List PlacedToken) (s : State) → Dull (t ∷ rest) → (b : Bool) → is_of k t ≡ b
      → Keeps (if b then passed t rest (step (m t) s) else Err (refusal reason.Syntax (t ∷ rest)))
  tested t rest s d true is = done t rest (behind k t rest i is d) (step (m t) s)
  tested t rest s d false is = tt

  by : (s : State) (ts : List PlacedToken) → Dull ts → Keeps (take_from k m s ts)
  by s [] d = tt
  by s (t ∷ rest) d = tested t rest s d (is_of k t) refl

safe_then : {A C : Type 0} (o : Outcome A) (f : A × At → Outcome C) → Keeps o → ((x : A × At) → Dull x.1.rest → Keeps (f x)) → Keeps (o >>= f)
safe_then (Ok x) f k h = h x k
safe_then (Err r) f k h = tt

safe_if : {A : Type 0} (b : Bool) (x y : Outcome A) → Keeps x → Keeps y → Keeps (if b then x else y)
safe_if true x y k h = k
safe_if false x y k h = h

safe_number : Safe number_at
unfolding number_at
safe_number here d = safe_then (take_at form.Number here) (λ t. Ok (number_of t.0, t.1)) (safe_take form.Number (λ _. plain) in_number here d) (λ t k. k)

safe_closing : {A : Type 0} (x : A) → Safe (closing_at x)
unfolding closing_at
safe_closing x here d =
    safe_then (take_at (form.Sign sign.RightParen) here) (λ t. Ok (x, t.1)) (safe_take (form.Sign sign.RightParen) (λ _. plain) in_close here d) (λ t k. k)

safe_direction : Safe direction_at
unfolding direction_at
safe_direction here d =
    safe_if (is_at (form.Keyword word.Downto) here.rest) _ _
    (safe_then (take_at (form.Keyword word.Downto) here) (λ t. Ok (true, t.1)) (safe_take (form.Keyword word.Downto) (λ _. plain) in_falls here d) (λ t k. k))
    (safe_then (take_at (form.Keyword word.To) here) (λ t. Ok (false, t.1)) (safe_take (form.Keyword word.To) (λ _. plain) in_rises here d) (λ t k. k))

safe_range : (paren left : ℕ) → Safe (range_at paren left)
unfolding range_at
safe_range paren left here d =
    safe_then (direction_at here) _ (safe_direction here d)
    (λ falls k. safe_then (number_at falls.1) _ (safe_number falls.1 k) (λ right l. safe_closing _ right.1 l))

safe_selected : (paren : ℕ) → Safe (selected_at paren)
unfolding selected_at
safe_selected paren here d =
    safe_then (number_at here) _ (safe_number here d)
    (λ left k. safe_if (is_at (form.Sign sign.RightParen) left.1.rest) _ _ (safe_closing (selection.Bit left.0) left.1 k) (safe_range paren left.0 left.1 k))

safe_opened : (room : ℕ) → Safe (opened_at room)
unfolding opened_at
safe_opened room here d =
    safe_then (take_marked (form.Sign sign.LeftParen) (λ _. opens room) here) _ (safe_take (form.Sign sign.LeftParen) (λ _. opens room) in_open here d)
    (λ t k. safe_selected t.0.line t.1 k)

safe_selecting : (room : ℕ) → Safe (selecting_at room)
unfolding selecting_at
safe_selecting room here d = safe_if (is_at (form.Sign sign.LeftParen) here.rest) _ _ (safe_opened room here d) d

safe_behind : (room : ℕ) (t : PlacedToken) → Safe (target_behind_at room t)
unfolding target_behind_at
safe_behind room t here d = safe_then (selecting_at room here) _ (safe_selecting room here d) (λ s k. k)

safe_target : (room : ℕ) → Safe (target_at room)
unfolding target_at
safe_target room here d =
    safe_then (take_at form.Identifier here) _ (safe_take form.Identifier (λ _. plain) in_name here d) (λ t k. safe_behind room t.0 t.1 k)

-- no assignment begins there
pub none_here : (ts : List PlacedToken) → Dull ts → assigned_here ts ≡ None
none_here ts d = by (target_at DEPTH (start ts)) (safe_target DEPTH (start ts) d) where
  told : Outcome Target → Option Target
  told (Ok x) = if is_at (form.Sign sign.Assign) x.1.rest then Some x.0 else None
  told (Err r) = None

  by : (o : Outcome Target) → Keeps o → told o ≡ None
  by (Ok x) k = ap (λ (b : Bool). if b then Some x.0 else None) (not_assign x.1.rest k)
  by (Err r) k = refl

-- the count goes on behind the first of them
pub goes_on : (known : List Symbol) (before : List Name) (t : PlacedToken) (ts : List PlacedToken) → assigned_here (t ∷ ts) ≡ None → overfull known before (t ∷ ts) ≡ overfull known before ts
goes_on known before t ts none = ap (λ (o : Option Target). behind_target (length (t ∷ ts)) known before (λ after. overfull known after ts) o) none

-- ---- stretches

-- tokens with no `<=` among them, of which the last ends targets
pub data Stretch : List PlacedToken → Type 0 where
  last : (t : PlacedToken) → IsStop t → Stretch (t ∷ [])
  more : (t : PlacedToken) (ts : List PlacedToken) → is_of (form.Sign sign.Assign) t ≡ false → Stretch ts → Stretch (t ∷ ts)

stretch_dull : (ts rest : List PlacedToken) → Stretch ts → Dull (ts ++ rest)
stretch_dull (t ∷ []) rest (last u s) = stops t rest s
stretch_dull (t ∷ ts) rest (more u us a s) = goes t (ts ++ rest) a (stretch_dull ts rest s)
stretch_dull [] rest s = elim s [ ]

pub stretch_both : (ts us : List PlacedToken) → Stretch ts → Stretch us → Stretch (ts ++ us)
stretch_both (t ∷ []) us (last u s) r = more t us s.assign r
stretch_both (t ∷ ts) us (more u vs a s) r = more t (ts ++ us) a (stretch_both ts us s r)
stretch_both [] us s r = elim s [ ]

pub over_stretch : (known : List Symbol) (before : List Name) (ts rest : List PlacedToken) → Stretch ts → overfull known before (ts ++ rest) ≡ overfull known before rest
over_stretch known before (t ∷ []) rest (last u s) = goes_on known before t rest (none_here (t ∷ rest) (stops t rest s))
over_stretch known before (t ∷ ts) rest (more u us a s) =
    goes_on known before t (ts ++ rest) (none_here (t ∷ ts ++ rest) (goes t (ts ++ rest) a (stretch_dull ts rest s))) ∙ over_stretch known before ts rest s
over_stretch known before [] rest s = elim s [ ]

-- no `<=`
abbrev pub Quiet : List PlacedToken → Type 0
Quiet [] = Unit {0}
Quiet (t ∷ ts) = (is_of (form.Sign sign.Assign) t ≡ false) × Quiet ts

pub quiet_both : (ts us : List PlacedToken) → Quiet ts → Quiet us → Quiet (ts ++ us)
quiet_both [] us h g = g
quiet_both (t ∷ ts) us h g = (h.0, quiet_both ts us h.1 g)

pub quiet_stretch : (ts us : List PlacedToken) → Quiet ts → Stretch us → Stretch (ts ++ us)
quiet_stretch [] us h s = s
quiet_stretch (t ∷ ts) us h s = more t (ts ++ us) h.0 (quiet_stretch ts us h.1 s)
