-- Different numbers below a bound are few.
use Rattle.std.proofs.Common.{◌≡◌, ◌⊎◌, inl, inr, ℕ, zero, suc, ◌+◌, ◌<◌, ◌≤◌, List, [], ◌∷◌, length, refl, subst, arith}
use Rattle.std.proofs.lemmas.Bool.{cases_lt}
use Rattle.vlsi_base.specs.Range.{rising}
use Rattle.vlsi_base.specs.Member.{In, here, there, AllDifferent}
use Rattle.machine_walk.proofs.Names.{length-rising}

record Cut (x : ℕ) (ys : List ℕ) : Type 0 where
  rest : List ℕ
  many : length ys ≡ length rest + 1
  cases : (n : ℕ) → In n ys → (n ≡ x) ⊎ In n rest

head_cases : (n x : ℕ) (ys : List ℕ) → In n (x ∷ ys) → (n ≡ x) ⊎ In n ys
head_cases n x ys here = inl refl
head_cases n x ys (there i) = inr i

tail_cases : (n x y : ℕ) (rest ys : List ℕ) → ((m : ℕ) → In m ys → (m ≡ x) ⊎ In m rest) → In n (y ∷ ys) → (n ≡ x) ⊎ In n (y ∷ rest)
tail_cases n x y rest ys cases here = inr here
tail_cases n x y rest ys cases (there i) = elim (cases n i) [ inl e ↦ inl e | inr j ↦ inr (there j) ]

cut : (x : ℕ) (ys : List ℕ) → In x ys → Cut x ys
cut x [] i = elim i [ ]
cut x (y ∷ ys) here = record { rest = ys; many = omega arith; cases = λ n i. head_cases n x ys i }
cut x (y ∷ ys) (there i) =
    let r = cut x ys i in
    record { rest = y ∷ r.rest; many = omega (arith, r.many); cases = λ n j. tail_cases n x y r.rest ys r.cases j }

fits : (xs ys : List ℕ) → AllDifferent xs → ((n : ℕ) → In n xs → In n ys) → length xs ≤ length ys
fits [] ys d within = omega arith
fits (x ∷ xs) ys d within =
    let r = cut x ys (within x here) in
    let rest = fits xs r.rest d.1 (λ n i. elim (r.cases n (within n (there i))) [ inl is ↦ absurd (d.0 (subst (λ m. In m xs) is i)) | inr j ↦ j ]) in
    omega (arith, rest, r.many)

rising_in : (a n x : ℕ) → a ≤ x → x < a + n → In x (rising a n)
rising_in a zero x low high = absurd (omega arith)
rising_in a (suc n) x low high = by (cases_lt a x) (λ less. rising_in (a + 1) n x (omega (arith, less)) (omega (arith, high))) where
  by : (a < x) ⊎ (x ≤ a) → (a < x → In x (rising (a + 1) n)) → In x (a ∷ rising (a + 1) n)
  by (inl less) rest = there (rest less)
  by (inr same) rest = let e : a ≡ x = omega (arith, low, same) in subst (λ (y : ℕ). In y (a ∷ rising (a + 1) n)) e here

pub few_below : (n : ℕ) (xs : List ℕ) → AllDifferent xs → ((x : ℕ) → In x xs → x < n) → length xs ≤ n
few_below n xs d low =
    let f = fits xs (rising 0 n) d (λ x i. rising_in 0 n x (omega arith) (let l = low x i in omega (arith, l))) in
    let c = length-rising 0 n in
    omega (arith, f, c)
