-- The search, step by step.
use Rattle.std.proofs.Common.{◌≡◌, ℕ, zero, suc, ◌+◌, ◌-◌, ◌<◌, nat_lt, Bool, true, false, List, [], ◌∷◌, unwrap_or, subst, if◌then◌else◌, None, Some, refl, sym, ap, ◌∙◌, zero-add, arith}
use Rattle.std.proofs.lemmas.Bool.{ltb-true}
use Rattle.fsm_machine.specs.Encoding.{Exchange, exchanged, exchanged_by, first_lower, lowered}
use Rattle.fsm_machine.proofs.Coding.{stays, lowered_ends}

-- however many steps more are allowed than the weight is, the search ends at the same numbers
enough_steps : (weight : List ℕ → ℕ) (xs : List Exchange) (more further : ℕ) (numbers : List ℕ) → weight numbers < more
    → lowered weight xs (more + further) numbers ≡ lowered weight xs more numbers
enough_steps weight xs more further numbers l = after more further numbers ∙ stays weight xs further (lowered weight xs more numbers) (lowered_ends weight xs more numbers l) where
  after : (m k : ℕ) (ns : List ℕ) → lowered weight xs (m + k) ns ≡ lowered weight xs k (lowered weight xs m ns)
  after zero k ns = ap (λ j. lowered weight xs j ns) (zero-add k)
  after (suc m) k ns = ap (λ j. lowered weight xs j ns) (turn m k) ∙ after m k (exchanged_by ns (first_lower weight ns xs)) where
    turn : (a b : ℕ) → suc a + b ≡ suc (a + b)
    turn a b = omega arith

-- one step
one_step : (weight : List ℕ → ℕ) (xs : List Exchange) (more : ℕ) (numbers : List ℕ) (x : Exchange) → first_lower weight numbers xs ≡ Some x
    → lowered weight xs (suc more) numbers ≡ lowered weight xs more (exchanged numbers x)
one_step weight xs more numbers x e = ap (λ y. lowered weight xs more (exchanged_by numbers y)) e

-- an exchange that lowers the weight, and then the search from there, is the search
step_down : (weight : List ℕ → ℕ) (xs : List Exchange) (numbers : List ℕ) (x : Exchange) → first_lower weight numbers xs ≡ Some x
    → weight (exchanged numbers x) < weight numbers
    → lowered weight xs (weight (exchanged numbers x) + 1) (exchanged numbers x) ≡ lowered weight xs (weight numbers + 1) numbers
step_down weight xs numbers x e l =
    sym (ap (λ (k : ℕ). lowered weight xs k numbers) (let e : weight numbers + 1 ≡ suc (weight numbers) = omega arith in e) ∙ one_step weight xs (weight numbers) numbers x e
    ∙ split (weight numbers - (weight (exchanged numbers x) + 1)) (omega arith)) where
      split : (more : ℕ) → weight numbers ≡ weight (exchanged numbers x) + 1 + more
          → lowered weight xs (weight numbers) (exchanged numbers x) ≡ lowered weight xs (weight (exchanged numbers x) + 1) (exchanged numbers x)
      split more e = ap (λ k. lowered weight xs k (exchanged numbers x)) e ∙ enough_steps weight xs (weight (exchanged numbers x) + 1) more (exchanged numbers x) (omega arith)

-- what is found lowers the weight
found_lowers : (weight : List ℕ → ℕ) (numbers : List ℕ) (xs : List Exchange) (x : Exchange) → first_lower weight numbers xs ≡ Some x → weight (exchanged numbers x) < weight numbers
found_lowers weight numbers [] x e = absurd cc
found_lowers weight numbers (y ∷ xs) x e = by (nat_lt (weight (exchanged numbers y)) (weight numbers)) refl (found_lowers weight numbers xs x) e where
  by : (t : Bool) → nat_lt (weight (exchanged numbers y)) (weight numbers) ≡ t → (first_lower weight numbers xs ≡ Some x → weight (exchanged numbers x) < weight numbers)
      → (if t then Some y else first_lower weight numbers xs) ≡ Some x → weight (exchanged numbers x) < weight numbers
  by true f later e =
      let P : Exchange → Type 0 = λ z. weight (exchanged numbers z) < weight numbers in
      subst P (ap (λ o. unwrap_or o x) e) (ltb-true (weight (exchanged numbers y)) (weight numbers) f)
  by false f later e = later e

-- what stands after the exchange that is found weighs less
pub goes_down : (weight : List ℕ → ℕ) (xs : List Exchange) (numbers new : List ℕ) (x : Exchange) → first_lower weight numbers xs ≡ Some x → new ≡ exchanged numbers x
    → weight new < weight numbers
goes_down weight xs numbers new x e is = subst (λ (ys : List ℕ). weight ys < weight numbers) (sym is) (found_lowers weight numbers xs x e)

-- and the search from there comes to the same
pub goes_on : (weight : List ℕ → ℕ) (xs : List Exchange) (numbers new : List ℕ) (x : Exchange) → first_lower weight numbers xs ≡ Some x → new ≡ exchanged numbers x
    → lowered weight xs (weight new + 1) new ≡ lowered weight xs (weight numbers + 1) numbers
goes_on weight xs numbers new x e is =
    ap (λ (ys : List ℕ). lowered weight xs (weight ys + 1) ys) is ∙ step_down weight xs numbers x e (found_lowers weight numbers xs x e)

-- where none is found, the search ends
pub goes_no_further : (weight : List ℕ → ℕ) (xs : List Exchange) (numbers end whole : List ℕ) → first_lower weight numbers xs ≡ None → end ≡ numbers
    → lowered weight xs (weight numbers + 1) numbers ≡ whole → end ≡ whole
goes_no_further weight xs numbers end whole e is h = is ∙ sym (stays weight xs (weight numbers + 1) numbers e) ∙ h
