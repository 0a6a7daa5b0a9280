-- How many elements lists come to together that have a number.
use Rattle.std.proofs.Common.{◌≡◌, ℕ, zero, suc, ◌+◌, ◌*◌, ◌<◌, ◌≤◌, Bool, true, false, cond, List, [], ◌∷◌, length, filter, refl, ap, arith, length-append}
use Rattle.std.specs.Prelude.{flat_map, nat_eq}
use Rattle.std.proofs.lemmas.Bool.Decides.{nat_tests}
use Rattle.std.proofs.lemmas.Grind.{flat_map-append}
use Rattle.vlsi_base.specs.Member.{In, here, there}
use Rattle.cell_model.specs.Access.{count_to}

-- the sum of f over the numbers below n
abbrev pub summed : (ℕ → ℕ) → ℕ → ℕ
summed f zero = 0
summed f (suc n) = summed f n + f n

pub summed_least : (f g : ℕ → ℕ) (n : ℕ) → ((k : ℕ) → f k ≤ g k) → summed f n ≤ summed g n
summed_least f g zero each = omega arith
summed_least f g (suc n) each = let a = summed_least f g n each in let b = each n in omega (arith, a, b)

pub summed_both : (f g h : ℕ → ℕ) (n : ℕ) → ((k : ℕ) → f k ≡ g k + h k) → summed f n ≡ summed g n + summed h n
summed_both f g h zero each = refl
summed_both f g h (suc n) each = let a = summed_both f g h n each in let b = each n in omega (arith, a, b)

pub summed_none : (n : ℕ) → summed (λ k. 0) n ≡ 0
summed_none zero = refl
summed_none (suc n) = let a = summed_none n in omega (arith, a)

pub summed_ones : (n : ℕ) → summed (λ k. 1) n ≡ n
summed_ones zero = refl
summed_ones (suc n) = let a = summed_ones n in omega (arith, a)

-- b for one number, and 0 for all others
abbrev pub only_at : ℕ → ℕ → ℕ → ℕ
only_at b a k = cond (nat_eq a k) b 0

at_true : (b a k : ℕ) → a ≡ k → only_at b a k ≡ b
at_true b a k e = grind (arith, nat_tests)

at_false : (b a k : ℕ) → k < a → only_at b a k ≡ 0
at_false b a k low = grind (arith, nat_tests)

only_past : (b a n : ℕ) → n ≤ a → summed (only_at b a) n ≡ 0
only_past b a zero low = refl
only_past b a (suc n) low = let x = only_past b a n (omega (arith, low)) in let y = at_false b a n (omega (arith, low)) in omega (arith, x, y)

only_step : (b a n : ℕ) → summed (only_at b a) n ≤ b → (r : Bool) → nat_eq a n ≡ r → summed (only_at b a) n + cond r b 0 ≤ b
only_step b a n before true e =
    let same : a ≡ n = grind (arith, nat_tests) in
    let x = only_past b a n (omega (arith, same)) in omega (arith, x)
only_step b a n before false e = omega (arith, before)

-- only one number counts
pub only_once : (b a n : ℕ) → summed (only_at b a) n ≤ b
only_once b a zero = omega arith
only_once b a (suc n) = only_step b a n (only_once b a n) (nat_eq a n) refl

-- the lists of all numbers together
pub flat_long : {A : Type 0} (f : ℕ → List A) (n : ℕ) → length (flat_map f (count_to n)) ≡ summed (λ k. length (f k)) n
flat_long f zero = refl
flat_long {A} f (suc n) =
    let a = flat_long f n in
    let b = ap (λ (xs : List A). length xs) (flat_map-append f (count_to n) (n ∷ [])) in
    let c = length-append (flat_map f (count_to n)) (flat_map f (n ∷ [])) in
    let d = length-append (f n) [] in
    omega (arith, a, b, c, d)

-- lists of several things
pub flat_sum : {A X : Type 0} (f : ℕ → X → List A) (b n : ℕ) (xs : List X) → ((x : X) → In x xs → summed (λ k. length (f k x)) n ≤ b)
    → summed (λ k. length (flat_map (f k) xs)) n ≤ b * length xs
flat_sum f b n [] each = let a = summed_none n in omega (arith, a)
flat_sum f b n (x ∷ xs) each =
    let a = summed_both (λ k. length (flat_map (f k) (x ∷ xs))) (λ k. length (f k x)) (λ k. length (flat_map (f k) xs)) n (λ k. length-append (f k x) (flat_map (f k) xs)) in
    let c = each x here in
    let d = flat_sum f b n xs (λ y i. each y (there i)) in
    let e : b * length (x ∷ xs) ≡ b + b * length xs = omega arith in
    omega (arith, a, c, d, e)

filter_step : {X : Type 0} (t : X → Bool) (x : X) (xs : List X) → length (filter t xs) ≤ length xs → (r : Bool) → t x ≡ r → length (filter t (x ∷ xs)) ≤ length (x ∷ xs)
filter_step t x xs before true e = rw e (omega (arith, before))
filter_step t x xs before false e = rw e (omega (arith, before))

pub filter_less : {X : Type 0} (t : X → Bool) (xs : List X) → length (filter t xs) ≤ length xs
filter_less t [] = omega arith
filter_less t (x ∷ xs) = filter_step t x xs (filter_less t xs) (t x) refl
