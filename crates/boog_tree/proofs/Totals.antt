-- Sums over lists that name the same numbers.
use Rattle.std.proofs.Common.{◌≡◌, inl, inr, ℕ, ◌+◌, ◌<◌, ◌≤◌, Bool, true, false, IsTrue, List, [], ◌∷◌, nat_eq, if◌then◌else◌, ap, refl, arith}
use Rattle.std.proofs.lemmas.Bool.{cases_lt, eqb-true, eqb-false}
use Rattle.cell_match.specs.Places.{times}
use Rattle.cell_match.proofs.Numbers.{one, one_tells, one_same}
use Rattle.boog_tree.specs.Sums.{total, inner_sum}

pub total_same : (t u : ℕ → ℕ) (xs : List ℕ) → ((x : ℕ) → t x ≡ u x) → total t xs ≡ total u xs
total_same t u [] same = refl
total_same t u (x ∷ xs) same = let e = same x in let f = total_same t u xs same in omega arith

pub total_le : (t u : ℕ → ℕ) (xs : List ℕ) → ((x : ℕ) → 0 < times x xs → t x ≤ u x) → total t xs ≤ total u xs
total_le t u [] each = omega arith
total_le t u (x ∷ xs) each =
    let o = one_same x in
    let e = each x (omega arith) in
    let f = total_le t u xs (λ y some. each y (omega arith)) in
    omega arith

pub total_on : (t u : ℕ → ℕ) (xs : List ℕ) → ((x : ℕ) → 0 < times x xs → t x ≡ u x) → total t xs ≡ total u xs
total_on t u [] same = refl
total_on t u (x ∷ xs) same =
    let o = one_same x in
    let e = same x (omega arith) in
    let f = total_on t u xs (λ y some. same y (omega arith)) in
    omega arith

-- a list without a number's first place
abbrev pub left_out : ℕ → List ℕ → List ℕ
left_out x [] = []
left_out x (y ∷ ys) = if nat_eq y x then ys else y ∷ left_out x ys

pub total_left : (t : ℕ → ℕ) (x : ℕ) (ys : List ℕ) → 0 < times x ys → total t ys ≡ t x + total t (left_out x ys)
total_left t x [] some = absurd (omega arith)
total_left t x (y ∷ ys) some = go (nat_eq y x) refl (total_left t x ys) where
  go : (b : Bool) → nat_eq y x ≡ b → (0 < times x ys → total t ys ≡ t x + total t (left_out x ys))
      → total t (y ∷ ys) ≡ t x + total t (if b then ys else y ∷ left_out x ys)
  go true e rest = let f = ap t (eqb-true y x e) in omega arith
  go false e rest = elim (one_tells y x) [
    | inl is ↦ absurd (eqb-false y x e is.0)
    | inr isnt ↦ let o = isnt.1 in let r = rest (omega arith) in omega arith
  ]

pub times_left : (x z : ℕ) (ys : List ℕ) → 0 < times x ys → times z ys ≡ one x z + times z (left_out x ys)
times_left x z [] some = absurd (omega arith)
times_left x z (y ∷ ys) some = go (nat_eq y x) refl (times_left x z ys) where
  go : (b : Bool) → nat_eq y x ≡ b → (0 < times x ys → times z ys ≡ one x z + times z (left_out x ys))
      → times z (y ∷ ys) ≡ one x z + times z (if b then ys else y ∷ left_out x ys)
  go true e rest = let f = ap (λ (k : ℕ). one k z) (eqb-true y x e) in omega arith
  go false e rest = elim (one_tells y x) [
    | inl is ↦ absurd (eqb-false y x e is.0)
    | inr isnt ↦ let o = isnt.1 in let r = rest (omega arith) in omega arith
  ]

pub total_listed : (t : ℕ → ℕ) (xs ys : List ℕ) → ((x : ℕ) → times x xs ≡ times x ys) → total t xs ≡ total t ys
total_listed t [] [] same = refl
total_listed t [] (y ∷ ys) same = let e = same y in let o = one_same y in absurd (omega arith)
total_listed t (x ∷ xs) ys same =
    let o = one_same x in
    let e = same x in
    let there : 0 < times x ys = omega arith in
    let f = total_left t x ys there in
    let rest = total_listed t xs (left_out x ys) (λ z. let a = same z in let b = times_left x z ys there in omega arith) in
    omega arith

-- two lists that name the same numbers, each once
pub once_same : (xs ys : List ℕ) (x : ℕ) → times x xs ≤ 1 → times x ys ≤ 1 → (0 < times x xs → 0 < times x ys) → (0 < times x ys → 0 < times x xs)
    → times x xs ≡ times x ys
once_same xs ys x a b forth back = elim (cases_lt 0 (times x xs)) [
  | inl some ↦ let e = forth some in omega arith
  | inr none ↦ elim (cases_lt 0 (times x ys)) [
    | inl some ↦ let e = back some in omega arith
    | inr none_too ↦ omega arith
  ]
]

-- a sum over what lies in the tree
pub inner_le : (inner : ℕ → Bool) (b d : ℕ → ℕ) (xs : List ℕ) → ((x : ℕ) → 0 < times x xs → IsTrue (inner x) → b x ≤ d x)
    → inner_sum inner b xs ≤ inner_sum inner d xs
inner_le inner b d xs each = total_le (λ x. if inner x then b x else 0) (λ x. if inner x then d x else 0) xs (λ x some. go x (inner x) refl some) where
  go : (x : ℕ) (t : Bool) → inner x ≡ t → 0 < times x xs → (if t then b x else 0) ≤ (if t then d x else 0)
  go x true e some = each x some e
  go x false e some = omega arith

pub inner_same : (inner other : ℕ → Bool) (b : ℕ → ℕ) (xs : List ℕ) → ((x : ℕ) → inner x ≡ other x) → inner_sum inner b xs ≡ inner_sum other b xs
inner_same inner other b xs same =
    total_same (λ x. if inner x then b x else 0) (λ x. if other x then b x else 0) xs (λ x. ap (λ (t : Bool). if t then b x else 0) (same x))
