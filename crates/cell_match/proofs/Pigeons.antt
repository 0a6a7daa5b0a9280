-- Lists that name numbers once.
use Rattle.std.proofs.Common.{◌≡◌, ◌≢◌, ◌⊎◌, inl, inr, ℕ, ◌+◌, ◌<◌, ◌≤◌, Bool, true, false, List, [], ◌∷◌, ◌++◌, length, get_or, nat_eq, if◌then◌else◌, ap, refl, sym, subst, ◌∙◌, arith}
use Prim.Native.Nat.{zero, suc}
use Rattle.std.proofs.lemmas.Bool.{cases_eq, cases_lt, eqb-true, eqb-false}
use Rattle.cell_match.specs.Places.{times, place, IsOrder}
use Rattle.cell_match.proofs.Numbers.{one_tells, one_same}

-- a list without a number's first place
without : ℕ → List ℕ → List ℕ
without x [] = []
without x (y ∷ ys) = if nat_eq y x then ys else y ∷ without x ys

module _ where
  shorter : (x : ℕ) (ys : List ℕ) → 0 < times x ys → length (without x ys) + 1 ≡ length ys
  unfolding without
  shorter x [] h = absurd (omega arith)
  shorter x (y ∷ ys) h = go (nat_eq y x) h (shorter x ys) where
    go : (b : Bool) → 0 < (if b then 1 else 0) + times x ys → (0 < times x ys → length (without x ys) + 1 ≡ length ys)
        → length (if b then ys else y ∷ without x ys) + 1 ≡ length (y ∷ ys)
    go true h rest = omega arith
    go false h rest = let e = rest (omega arith) in omega arith

  others : (x z : ℕ) (ys : List ℕ) → z ≢ x → times z (without x ys) ≡ times z ys
  unfolding without
  others x z [] h = refl
  others x z (y ∷ ys) h = go (nat_eq y x) refl (others x z ys h) where
    go : (b : Bool) → nat_eq y x ≡ b → times z (without x ys) ≡ times z ys → times z (if b then ys else y ∷ without x ys) ≡ times z (y ∷ ys)
    go true e rest =
        let same = eqb-true y x e in
        elim (one_tells y z) [
          | inl is ↦ absurd (h (sym is.0 ∙ same))
          | inr isnt ↦ let f = isnt.1 in omega arith
        ]
    go false e rest = omega arith

-- what names numbers of a list once is no longer than it
pub no_longer : (xs ys : List ℕ) → ((x : ℕ) → times x xs ≤ 1) → ((x : ℕ) → 0 < times x xs → 0 < times x ys) → length xs ≤ length ys
no_longer [] ys once inside = omega arith
no_longer (x ∷ xs) ys once inside =
    let o = one_same x in
    let here = once x in
    let s = shorter x ys (inside x (omega arith)) in
    let rest = no_longer xs (without x ys)
    (λ z. let e = once z in omega arith)
    (λ z some. elim (cases_eq z x) [
      | inl is ↦ let f = subst (λ (n : ℕ). 0 < times n xs) is some in absurd (omega arith)
      | inr isnt ↦ let e = others x z ys isnt in let i = inside z (omega arith) in omega arith
    ]) in
    omega arith

-- the numbers below n
upto : ℕ → List ℕ
upto zero = []
upto (suc n) = n ∷ upto n

upto_many : (n : ℕ) → length (upto n) ≡ n
unfolding upto
upto_many zero = refl
upto_many (suc n) = let e = upto_many n in omega arith

upto_some : (n x : ℕ) → x < n → 0 < times x (upto n)
unfolding upto
upto_some zero x h = absurd (omega arith)
upto_some (suc n) x h = elim (one_tells n x) [
  | inl is ↦ let e = is.1 in omega arith
  | inr isnt ↦ let ne = isnt.0 in let f = upto_some n x (omega arith) in omega arith
]

-- an order has every place
pub every_place : (n : ℕ) (order : List ℕ) → IsOrder n order → (i : ℕ) → i < n → 0 < times i order
every_place n order is i low = elim (cases_lt 0 (times i order)) [
  | inl some ↦ some
  | inr none ↦
      let e = no_longer (i ∷ order) (upto n)
      (λ x. elim (one_tells i x) [
        | inl same ↦ let o = same.1 in let z : times x order ≡ times i order = ap (λ (k : ℕ). times k order) (sym same.0) in omega arith
        | inr isnt ↦ let o = isnt.1 in let f = is.once x in omega arith
      ])
      (λ x some. upto_some n x (elim (one_tells i x) [
        | inl same ↦ let s = same.0 in omega arith
        | inr isnt ↦ let o = isnt.1 in is.within x (omega arith)
      ])) in
      let m = upto_many n in
      let l = is.many in
      absurd (omega arith)
]

pub times_append : (x : ℕ) (xs ys : List ℕ) → times x (xs ++ ys) ≡ times x xs + times x ys
times_append x [] ys = omega arith
times_append x (y ∷ xs) ys = let e = times_append x xs ys in omega arith

-- places
pub place_cons : (x y : ℕ) (ys : List ℕ) → ((y ≡ x) × (place x (y ∷ ys) ≡ 0)) ⊎ ((y ≢ x) × (place x (y ∷ ys) ≡ suc (place x ys)))
place_cons x y ys = go (nat_eq y x) refl where
  go : (b : Bool) → nat_eq y x ≡ b
      → ((y ≡ x) × ((if b then 0 else suc (place x ys)) ≡ 0)) ⊎ ((y ≢ x) × ((if b then 0 else suc (place x ys)) ≡ suc (place x ys)))
  go true e = inl (eqb-true y x e, refl)
  go false e = inr (eqb-false y x e, refl)

pub place_there : (x : ℕ) (ys : List ℕ) → 0 < times x ys → (place x ys < length ys) × (get_or ys (place x ys) 0 ≡ x)
place_there x [] h = absurd (omega arith)
place_there x (y ∷ ys) h = elim (place_cons x y ys) [
  | inl is ↦ (let p = is.1 in omega arith, ap (λ (n : ℕ). get_or (y ∷ ys) n 0) is.1 ∙ is.0)
  | inr isnt ↦
      let rest = place_there x ys (elim (one_tells y x) [
        | inl same ↦ absurd (isnt.0 same.0)
        | inr o ↦ let f = o.1 in omega arith
      ]) in
      (let p = isnt.1 in let r = rest.0 in omega arith, ap (λ (n : ℕ). get_or (y ∷ ys) n 0) isnt.1 ∙ rest.1)
]

pub place_none : (x : ℕ) (ys : List ℕ) → times x ys ≡ 0 → place x ys ≡ length ys
place_none x [] h = refl
place_none x (y ∷ ys) h = elim (place_cons x y ys) [
  | inl is ↦ elim (one_tells y x) [
    | inl same ↦ let f = same.1 in absurd (omega arith)
    | inr o ↦ absurd (o.0 is.0)
  ]
  | inr isnt ↦ let p = isnt.1 in let r = place_none x ys (omega arith) in omega arith
]

-- two different numbers of a list have different places
pub place_apart : (x y : ℕ) (ys : List ℕ) → 0 < times x ys → 0 < times y ys → place x ys ≡ place y ys → x ≡ y
place_apart x y ys hx hy e =
    sym (place_there x ys hx).1 ∙ ap (λ (n : ℕ). get_or ys n 0) e ∙ (place_there y ys hy).1
