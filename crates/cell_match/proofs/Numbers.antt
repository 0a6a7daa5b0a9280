-- How often numbers stand in lists.
use Rattle.std.proofs.Common.{◌≡◌, ◌≢◌, ◌⊎◌, inl, inr, ℕ, ◌+◌, ◌-◌, ◌<◌, ◌≤◌, Bool, List, [], ◌∷◌, length, take, set, get_or, nat_eq, if◌then◌else◌, ap, refl, sym, subst, arith, get_or-set_same, get_or-set_other}
use Prim.Native.Nat.{zero, suc}
use Rattle.std.proofs.lemmas.Bool.Decides.{eqb_tells}
use Rattle.cell_match.specs.Places.{times}

-- 1 where two numbers are the same
abbrev pub one : ℕ → ℕ → ℕ
one y x = if nat_eq y x then 1 else 0

pub one_tells : (y x : ℕ) → ((y ≡ x) × (one y x ≡ 1)) ⊎ ((y ≢ x) × (one y x ≡ 0))
one_tells y x = elim (eqb_tells y x) [
  | inl is ↦ inl (is.1, ap (λ (b : Bool). if b then 1 else 0) is.0)
  | inr isnt ↦ inr (isnt.1, ap (λ (b : Bool). if b then 1 else 0) isnt.0)
]

pub one_same : (x : ℕ) → one x x ≡ 1
one_same x = elim (one_tells x x) [
  | inl is ↦ is.1
  | inr isnt ↦ absurd (isnt.0 refl)
]

pub times_more : (x : ℕ) (xs : List ℕ) (i : ℕ) → i < length xs → times x (take (i + 1) xs) ≡ times x (take i xs) + one (get_or xs i 0) x
times_more x xs i h = subst (λ (k : ℕ). times x (take k xs) ≡ times x (take i xs) + one (get_or xs i 0) x) (let e : suc i ≡ i + 1 = omega arith in e) (go xs i h) where
  go : (xs : List ℕ) (i : ℕ) → i < length xs → times x (take (suc i) xs) ≡ times x (take i xs) + one (get_or xs i 0) x
  go [] i h = absurd (omega arith)
  go (y ∷ xs) zero h = omega arith
  go (y ∷ xs) (suc i) h = let e = go xs i (omega arith) in omega arith

pub times_take : (x : ℕ) (xs : List ℕ) (i : ℕ) → times x (take i xs) ≤ times x xs
times_take x [] zero = omega arith
times_take x [] (suc i) = omega arith
times_take x (y ∷ xs) zero = omega arith
times_take x (y ∷ xs) (suc i) = let e = times_take x xs i in omega arith

-- one more of the number at i
pub times_here : (xs : List ℕ) (i : ℕ) → i < length xs → times (get_or xs i 0) (take i xs) + 1 ≤ times (get_or xs i 0) xs
times_here xs i h =
    let e = times_more (get_or xs i 0) xs i h in let f = times_take (get_or xs i 0) xs (i + 1) in let g = one_same (get_or xs i 0) in omega arith

pub times_some : (xs : List ℕ) (i : ℕ) → i < length xs → 0 < times (get_or xs i 0) xs
times_some xs i h = let e = times_here xs i h in omega arith

pub times_all : (x : ℕ) (xs : List ℕ) (i : ℕ) → length xs ≤ i → times x (take i xs) ≡ times x xs
times_all x [] zero h = refl
times_all x [] (suc i) h = refl
times_all x (y ∷ xs) zero h = absurd (omega arith)
times_all x (y ∷ xs) (suc i) h = let e = times_all x xs i (omega arith) in omega arith

-- a count that is taken off, and one that is added
pub taken_off : (counts : List ℕ) (leaves : List ℕ) (i : ℕ) (old : ℕ → ℕ) → i < length leaves → get_or leaves i 0 < length counts
    → (1 ≤ get_or counts (get_or leaves i 0) 0)
    → ((x : ℕ) → get_or counts x 0 + times x (take i leaves) ≡ old x)
    → (x : ℕ) → get_or (set counts (get_or leaves i 0) (get_or counts (get_or leaves i 0) 0 - 1)) x 0 + times x (take (i + 1) leaves) ≡ old x
taken_off counts leaves i old low inside some before x =
    let y = get_or leaves i 0 in
    let e = times_more x leaves i low in
    let f = before x in
    elim (one_tells y x) [
      | inl is ↦
          let one_is = is.1 in
          let g : get_or (set counts y (get_or counts y 0 - 1)) x 0 ≡ get_or counts y 0 - 1 =
          subst (λ (k : ℕ). get_or (set counts y (get_or counts y 0 - 1)) k 0 ≡ get_or counts y 0 - 1) is.0 (get_or-set_same counts y (get_or counts y 0 - 1) 0 inside) in
          let k : get_or counts y 0 ≡ get_or counts x 0 = ap (λ (n : ℕ). get_or counts n 0) is.0 in
          omega arith
      | inr isnt ↦
          let one_is = isnt.1 in
          let g : get_or (set counts y (get_or counts y 0 - 1)) x 0 ≡ get_or counts x 0 = get_or-set_other counts y x (get_or counts y 0 - 1) 0 (λ s. isnt.0 (sym s)) in
          omega arith
    ]

pub put_on : (counts : List ℕ) (leaves : List ℕ) (i : ℕ) (old : ℕ → ℕ) → i < length leaves → get_or leaves i 0 < length counts
    → ((x : ℕ) → get_or counts x 0 ≡ old x + times x (take i leaves))
    → (x : ℕ) → get_or (set counts (get_or leaves i 0) (get_or counts (get_or leaves i 0) 0 + 1)) x 0 ≡ old x + times x (take (i + 1) leaves)
put_on counts leaves i old low inside before x =
    let y = get_or leaves i 0 in
    let e = times_more x leaves i low in
    let f = before x in
    elim (one_tells y x) [
      | inl is ↦
          let one_is = is.1 in
          let g : get_or (set counts y (get_or counts y 0 + 1)) x 0 ≡ get_or counts y 0 + 1 =
          subst (λ (k : ℕ). get_or (set counts y (get_or counts y 0 + 1)) k 0 ≡ get_or counts y 0 + 1) is.0 (get_or-set_same counts y (get_or counts y 0 + 1) 0 inside) in
          let k : get_or counts y 0 ≡ get_or counts x 0 = ap (λ (n : ℕ). get_or counts n 0) is.0 in
          omega arith
      | inr isnt ↦
          let one_is = isnt.1 in
          let g : get_or (set counts y (get_or counts y 0 + 1)) x 0 ≡ get_or counts x 0 = get_or-set_other counts y x (get_or counts y 0 + 1) 0 (λ s. isnt.0 (sym s)) in
          omega arith
    ]

-- a place of a number that stands in a list
pub times_place : (x : ℕ) (xs : List ℕ) → 0 < times x xs → (n : ℕ) × (n < length xs) × (get_or xs n 0 ≡ x)
times_place x [] h = absurd (omega arith)
times_place x (y ∷ xs) h = elim (one_tells y x) [
  | inl is ↦ (0, omega arith, is.0)
  | inr isnt ↦
      let zero_is = isnt.1 in
      let rest = times_place x xs (omega arith) in (suc rest.0, (let e = rest.1 in omega arith), rest.2)
]

pub times_first : (x : ℕ) (xs : List ℕ) (i : ℕ) → i < length xs → get_or xs i 0 ≡ x → 0 < times x xs
times_first x xs i h e = subst (λ (n : ℕ). 0 < times n xs) e (times_some xs i h)

pub times_next : (x : ℕ) (xs : List ℕ) (i : ℕ) → i < length xs → get_or xs i 0 ≢ x → times x (take i xs) ≡ 0 → times x (take (i + 1) xs) ≡ 0
times_next x xs i h other none = let e = times_more x xs i h in elim (one_tells (get_or xs i 0) x) [
  | inl is ↦ absurd (other is.0)
  | inr isnt ↦ let o = isnt.1 in omega arith
]
