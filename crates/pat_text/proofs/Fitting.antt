-- A token that has to fit its place, taken once it was looked at.
use Rattle.std.proofs.Common.{◌≡◌, Bool, true, false, ◌||◌, List, [], ◌∷◌, Result, Ok, Err, refl, sym, ap, ◌∙◌, cond, if◌then◌else◌}
use Rattle.vhdl_token.specs.declared.token.PlacedToken.{PlacedToken}
use Rattle.grammar_theory.specs.declared.form.Form.{Form}
use Rattle.grammar_theory.specs.declared.refusal.Breach.{Breach}
use Rattle.grammar_theory.specs.declared.refusal.Reason.TheVariants as reason
use Rattle.grammar_theory.specs.Tokens.{code, is_of, is_at, among}
use Rattle.grammar_theory.specs.Marks.{Mark, fits, State, step}
use Rattle.grammar_theory.specs.Outcome.{At, Outcome, ◌>>=◌, passed, take_from, take_marked, refusal}

-- the token that is taken is the next
taken_next : (f : Form) (k : Mark) (s : State) (next : PlacedToken) (more : List PlacedToken) (t : PlacedToken) (there : At) → take_from f (λ _. k) s (next ∷ more) ≡ Ok (t, there) → t ≡ next
taken_next f k s next more t there h = by (is_of f next) (step k s) h where
  taken : Outcome PlacedToken → PlacedToken
  taken (Ok x) = x.0
  taken (Err e) = next

  by : (b : Bool) (r : Result State Breach) → (if b then passed next more r else Err (refusal reason.Syntax (next ∷ more))) ≡ Ok (t, there) → t ≡ next
  by true (Ok u) e = sym (ap taken e)
  by true (Err u) e = sym (ap taken e)
  by false r e = sym (ap taken e)

-- a mark that was found by looking at the next token
same_take : (f : Form) (m : PlacedToken → Mark) (k : Mark) (here : At) (next : PlacedToken) (more : List PlacedToken) → here.rest ≡ next ∷ more → k ≡ m next → take_marked f m here ≡ take_marked f (λ _. k) here
same_take f m k here next more is e =
    ap (take_from f m here.state) is
    ∙ ap (λ (x : Mark). if is_of f next then passed next more (step x here.state) else Err (refusal reason.Syntax (next ∷ more))) (sym e)
    ∙ sym (ap (take_from f (λ _. k) here.state) is)

pub fitting : {X : Type 0} (f : Form) (test : PlacedToken → Bool) (value : PlacedToken → X) (here there : At) (next : PlacedToken) (more : List PlacedToken) (t : PlacedToken) (b : Bool) (x : X)
    → here.rest ≡ next ∷ more → b ≡ test next → x ≡ value next → take_marked f (λ _. fits b) here ≡ Ok (t, there)
    → (take_marked f (λ t. fits (test t)) here >>= λ t. Ok (value t.0, t.1)) ≡ Ok (x, there)
fitting {X} f test value here there next more t b x is tested valued read =
    let same = same_take f (λ t. fits (test t)) (fits b) here next more is (ap fits tested) in
    let first : t ≡ next = taken_next f (fits b) here.state next more t there (sym (ap (take_from f (λ _. fits b) here.state) is) ∙ read) in
    let go : PlacedToken → Outcome X = λ t. Ok (value t, there) in
    let last : X → Outcome X = λ x. Ok (x, there) in
    ap (λ (o : Outcome PlacedToken). o >>= λ t. Ok (value t.0, t.1)) (same ∙ read) ∙ ap go first ∙ ap last (sym valued)

pub among_two : (f g : Form) (ts : List PlacedToken) → among (code f ∷ code g ∷ []) ts ≡ (is_at f ts || is_at g ts)
among_two f g [] = refl
among_two f g (t ∷ ts) = same (is_of f t) (is_of g t) where
  same : (b c : Bool) → cond b true (cond c true false) ≡ (b || c)
  same true c = refl
  same false true = refl
  same false false = refl
