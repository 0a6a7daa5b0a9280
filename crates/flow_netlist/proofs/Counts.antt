-- How much lists come to together.
use Rattle.std.proofs.Common.{◌≡◌, ℕ, suc, ◌+◌, ◌*◌, ◌≤◌, Bool, true, false, cond, List, [], ◌∷◌, filter, length, refl, arith, length-append}
use Rattle.std.specs.Prelude.{sum_by}
use Rattle.std.specs.List.{flat_map}
use Rattle.std.proofs.lemmas.List.Sums.{sum_by-cons}
use Rattle.net_core.specs.Places.{Stands, IsThere}

-- each of the first ones has two less than that of the other list at its place, and those behind them have two at most
pub paired_then_two : {A B : Type 0} (f : A → ℕ) (g : B → ℕ) (xs : List A) (ys : List B) → length ys ≤ length xs
    → ((k : ℕ) (x : A) (y : B) → Stands xs k x → Stands ys k y → f x + 2 ≤ g y) → ((k : ℕ) (x : A) → Stands xs k x → length ys ≤ k → f x ≤ 2)
    → sum_by f xs + 4 * length ys ≤ sum_by g ys + 2 * length xs
paired_then_two f g [] [] many paired behind = omega arith
paired_then_two f g [] (y ∷ ys) many paired behind = absurd (omega (arith, many))
paired_then_two f g (x ∷ xs) [] many paired behind =
    let one = behind 0 x refl (omega arith) in
    let rest = paired_then_two f g xs [] (omega arith) (λ k a b s t. absurd cc) (λ k a s low. behind (suc k) a s (omega arith)) in
    let sum = sum_by-cons f x xs in
    omega (arith, one, rest, sum)
paired_then_two f g (x ∷ xs) (y ∷ ys) many paired behind =
    let one = paired 0 x y refl refl in
    let rest = paired_then_two f g xs ys (omega (arith, many)) (λ k a b s t. paired (suc k) a b s t) (λ k a s more. behind (suc k) a s (omega (arith, more))) in
    let sum = sum_by-cons f x xs in
    let other = sum_by-cons g y ys in
    omega (arith, one, rest, sum, other)

-- lists of so many each
pub flat_sum : {A B : Type 0} (f : A → List B) (g : A → ℕ) (xs : List A) → ((x : A) → length (f x) ≡ g x) → length (flat_map f xs) ≡ sum_by g xs
flat_sum f g [] each = refl
flat_sum f g (x ∷ xs) each =
    let one = each x in
    let rest = flat_sum f g xs each in
    let all = length-append (f x) (flat_map f xs) in
    let sum = sum_by-cons g x xs in
    omega (arith, one, rest, all, sum)

-- lists of which each has at least three less
pub flat_less : {A B : Type 0} (f : A → List B) (g : A → ℕ) (xs : List A) → ((x : A) → IsThere xs x → length (f x) + 3 ≤ g x)
    → length (flat_map f xs) + 3 * length xs ≤ sum_by g xs
flat_less f g [] each = omega arith
flat_less f g (x ∷ xs) each =
    let one = each x (0, refl) in
    let rest = flat_less f g xs (λ y at. each y (suc at.0, at.1)) in
    let all = length-append (f x) (flat_map f xs) in
    let sum = sum_by-cons g x xs in
    omega (arith, one, rest, all, sum)

-- two tests of which none passes both
pub apart_few : {A : Type 0} (t u : A → Bool) (xs : List A) → ((x : A) → t x ≡ true → u x ≡ false) → length (filter t xs) + length (filter u xs) ≤ length xs
apart_few t u [] apart = omega arith
apart_few t u (x ∷ xs) apart = by (t x) refl (u x) refl (apart_few t u xs apart) where
  by : (a : Bool) → t x ≡ a → (b : Bool) → u x ≡ b → length (filter t xs) + length (filter u xs) ≤ length xs
      → length (cond a (x ∷ filter t xs) (filter t xs)) + length (cond b (x ∷ filter u xs) (filter u xs)) ≤ suc (length xs)
  by true e true g rest = absurd (cc (apart x e, g))
  by true e false g rest = omega (arith, rest)
  by false e true g rest = omega (arith, rest)
  by false e false g rest = omega (arith, rest)
