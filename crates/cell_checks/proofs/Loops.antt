-- Loops over a list that stop at the first element without a property.
use Rattle.std.proofs.Common.{◌≡◌, ℕ, ◌+◌, ◌<◌, List, length, get_or, take, AllPairs, true, not, nat_eq, All, inl, inr, Some, subst, sym, ◌∙◌, arith}
use Rattle.std.proofs.lemmas.Bool.{cases_lt}
use Rattle.std.proofs.lemmas.List.{get_or_read, get_or-take, length-take}
use Rattle.std.proofs.lemmas.Option.{slice_get-get_or}
use Rattle.std.proofs.lemmas.Bool.Decides.{nat_tests}

-- the first n elements have the property
abbrev pub FirstHave : {A : Type 0} → (A → Type 0) → List A → ℕ → Type 0
FirstHave {A} P xs n = (i : ℕ) (d : A) → i < n → P (get_or xs i d)

pub one_more : {A : Type 0} (P : A → Type 0) (xs : List A) (n : ℕ) (x : A) → FirstHave P xs n → n < length xs → x ≡ get_or xs n x → P x → FirstHave P xs (n + 1)
one_more P xs n x first lt at has i d below =
    elim (cases_lt i n) [
      | inl h ↦ first i d h
      | inr h ↦ let e : n ≡ i = omega arith in
          subst (λ k. P (get_or xs k d)) e (subst P (get_or_read xs n x lt at d) has)
    ]

pub not_at : {A : Type 0} (P : A → Type 0) (xs : List A) (n : ℕ) (x : A) → n < length xs → x ≡ get_or xs n x → (P x → ⊥) → All P xs → ⊥
not_at P xs n x lt at none all = none (subst P (sym at) (all n x lt))

-- each two of the first n are related
abbrev pub FirstPairs : {A : Type 0} → (A → A → Type 0) → List A → ℕ → Type 0
FirstPairs {A} R xs n = (p q : ℕ) (d : A) → p < q → q < n → R (get_or xs p d) (get_or xs q d)

pub pairs_before : {A : Type 0} (R : A → A → Type 0) (xs : List A) (n : ℕ) (x : A) → n < length xs → x ≡ get_or xs n x → AllPairs R xs → All (λ y. R y x) (take n xs)
pairs_before R xs n x lt at all k d below =
    let l : k < n = omega (arith, below, length-take n xs) in
    subst (λ y. R y x) (sym (get_or-take n xs k d l)) (subst (R (get_or xs k d)) (sym (get_or_read xs n x lt at d)) (all k n d l lt))

pub one_more_pair : {A : Type 0} (R : A → A → Type 0) (xs : List A) (n : ℕ) (x : A) → FirstPairs R xs n → n < length xs → x ≡ get_or xs n x → All (λ y. R y x) (take n xs) → FirstPairs R xs (n + 1)
one_more_pair R xs n x first lt at all p q d before below =
    elim (cases_lt q n) [
      | inl h ↦ first p q d before h
      | inr h ↦ let e : n ≡ q = omega arith in
          subst (λ k. R (get_or xs p d) (get_or xs k d)) e
          (subst (R (get_or xs p d)) (get_or_read xs n x lt at d)
          (subst (λ y. R y x) (get_or-take n xs p d (omega arith)) (all p d (omega (arith, length-take n xs)))))
    ]

pub differ : (a b : ℕ) → not (nat_eq a b) ≡ true → a ≡ b → ⊥
differ a b h e = grind (arith, nat_tests)

pub differs : (a b : ℕ) → (a ≡ b → ⊥) → not (nat_eq a b) ≡ true
differs a b h = grind (arith, nat_tests)

-- an element read with a default, by itself
pub read_itself : {A : Type 0} (xs : List A) (n : ℕ) (d : A) → n < length xs → get_or xs n d ≡ get_or xs n (get_or xs n d)
read_itself xs n d lt =
    let e : Some (get_or xs n d) ≡ Some (get_or xs n (get_or xs n d)) = sym (slice_get-get_or xs n d lt) ∙ slice_get-get_or xs n (get_or xs n d) lt in cc
