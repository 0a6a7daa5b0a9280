-- Of a stem alone and the stem with numbers there is a first one that is free.
use Rattle.std.proofs.Common.{◌≡◌, ◌⊎◌, inl, inr, ℕ, zero, suc, ◌<◌, ◌^◌, Bool, true, false, List, length, refl, subst, arith}
use Rattle.std.proofs.lemmas.Bool.{cases_lt}
use Rattle.text_names.specs.Free.{is_free, candidate, IsFirstFree}
use Rattle.text_names.proofs.Enough.{last_is_free}

-- none of the first n is free, or there is a first free one
none_or_first : (stem : List ℕ) (taken : List (List ℕ)) (n : ℕ)
    → ((text : List ℕ) × IsFirstFree stem taken text) ⊎ ((k : ℕ) → k < n → is_free taken (candidate stem k) ≡ false)
none_or_first stem taken zero = inr (λ k h. absurd (omega (arith, h)))
none_or_first stem taken (suc n) = by (none_or_first stem taken n) (is_free taken (candidate stem n)) refl where
  among : ((k : ℕ) → k < n → is_free taken (candidate stem k) ≡ false) → is_free taken (candidate stem n) ≡ false → (k : ℕ) → k < suc n → is_free taken (candidate stem k) ≡ false
  among none e k h = elim (cases_lt k n) [
    | inl low ↦ none k low
    | inr high ↦ (let same : n ≡ k = omega (arith, h, high) in subst (λ j. is_free taken (candidate stem j) ≡ false) same e)
  ]

  by : ((text : List ℕ) × IsFirstFree stem taken text) ⊎ ((k : ℕ) → k < n → is_free taken (candidate stem k) ≡ false)
      → (b : Bool) → is_free taken (candidate stem n) ≡ b
      → ((text : List ℕ) × IsFirstFree stem taken text) ⊎ ((k : ℕ) → k < suc n → is_free taken (candidate stem k) ≡ false)
  by (inl first) b e = inl first
  by (inr none) true e = inl (candidate stem n, record { place = n; is = refl; free = e; earlier = none })
  by (inr none) false e = inr (among none e)

pub first_free : (stem : List ℕ) (taken : List (List ℕ)) → length taken < 2 ^ 63 → (text : List ℕ) × IsFirstFree stem taken text
first_free stem taken few = elim (none_or_first stem taken (length taken)) [
  | inl first ↦ first
  | inr none ↦ (candidate stem (length taken), record { place = length taken; is = refl; free = last_is_free stem taken few none; earlier = none })
]
