-- Sets of kinds, as lists of their numbers, and lists of items.
use Rattle.std.proofs.Common.{◌≡◌, ℕ, Bool, true, false, cond, eqb, List, [], ◌∷◌, ◌++◌, ◌⊎◌, inl, inr, refl, sym, ◌∙◌}
use Rattle.std.proofs.lemmas.Bool.{eqb-true, eq-eqb}
use Rattle.grammar_theory.specs.Marks.{Item}
pub use Rattle.grammar_theory.specs.Tokens.{elem}
use Rattle.grammar_theory.specs.Tokens.{code_of}

abbrev pub Set : Type 0
Set = List ℕ

abbrev pub has : Set → Item → Bool
has ks t = elem (code_of t.token) ks

abbrev pub disjoint : Set → Set → Bool
disjoint [] ys = true
disjoint (x ∷ xs) ys = cond (elem x ys) false (disjoint xs ys)

pub test : (b : Bool) → (b ≡ true) ⊎ (b ≡ false)
test true = inl refl
test false = inr refl

pub cond_true : {A : Type 0} (b : Bool) (x y : A) → b ≡ true → cond b x y ≡ x
cond_true true x y e = refl
cond_true false x y e = absurd cc

pub cond_false : {A : Type 0} (b : Bool) (x y : A) → b ≡ false → cond b x y ≡ y
cond_false true x y e = absurd cc
cond_false false x y e = refl

pub by_test : {X : Type 0} (P : X → Type 0) (b : Bool) (x y : X) → (b ≡ true → P x) → (b ≡ false → P y) → P (cond b x y)
by_test P true x y f g = f refl
by_test P false x y f g = g refl

pub or_true : (b c : Bool) → cond b true c ≡ true → (b ≡ true) ⊎ (c ≡ true)
or_true true c e = inl refl
or_true false c e = inr e

pub and_true : (b c : Bool) → cond b false c ≡ true → (b ≡ false) × (c ≡ true)
and_true true c e = absurd cc
and_true false c e = (refl, e)

pub clash : (n : ℕ) (xs ys : Set) → disjoint xs ys ≡ true → elem n xs ≡ true → elem n ys ≡ true → ⊥
clash n [] ys d h g = cc
clash n (x ∷ xs) ys d h g =
    let both = and_true (elem x ys) (disjoint xs ys) d in
    elim (or_true (eqb n x) (elem n xs) h) [
      | inl e ↦ let same = eqb-true n x e in let there : elem x ys ≡ true = rw (← same) g in cc (both.0, there)
      | inr later ↦ clash n xs ys both.1 later g
    ]

pub elem-left : (n : ℕ) (xs ys : Set) → elem n xs ≡ true → elem n (xs ++ ys) ≡ true
elem-left n [] ys h = absurd cc
elem-left n (x ∷ xs) ys h =
    elim (or_true (eqb n x) (elem n xs) h) [
      | inl e ↦ cond_true (eqb n x) true (elem n (xs ++ ys)) e
      | inr later ↦ elim (test (eqb n x)) [
        | inl e ↦ cond_true (eqb n x) true (elem n (xs ++ ys)) e
        | inr e ↦ cond_false (eqb n x) true (elem n (xs ++ ys)) e ∙ elem-left n xs ys later
      ]
    ]

pub elem-right : (n : ℕ) (xs ys : Set) → elem n ys ≡ true → elem n (xs ++ ys) ≡ true
elem-right n [] ys h = h
elem-right n (x ∷ xs) ys h =
    elim (test (eqb n x)) [
      | inl e ↦ cond_true (eqb n x) true (elem n (xs ++ ys)) e
      | inr e ↦ cond_false (eqb n x) true (elem n (xs ++ ys)) e ∙ elem-right n xs ys h
    ]

pub elem-first : (n : ℕ) (xs : Set) → elem n (n ∷ xs) ≡ true
elem-first n xs = cond_true (eqb n n) true (elem n xs) (eq-eqb n n refl)

pub either_of : (n : ℕ) (xs ys : Set) → elem n (xs ++ ys) ≡ true → (elem n xs ≡ true) ⊎ (elem n ys ≡ true)
either_of n [] ys h = inr h
either_of n (x ∷ xs) ys h =
    elim (or_true (eqb n x) (elem n (xs ++ ys)) h) [
      | inl e ↦ inl (cond_true (eqb n x) true (elem n xs) e)
      | inr later ↦ elim (either_of n xs ys later) [ inl a ↦ inl (elem-right n (x ∷ []) xs a) | inr b ↦ inr b ]
    ]

-- ---- lists

-- the first part reaches as far as p
pub record Over (a b p w : List Item) : Type 0 where
  pub more : List Item
  pub first : a ≡ p ++ more
  pub second : w ≡ more ++ b

-- the first part ends before the end of p
pub record Under (a b p w : List Item) : Type 0 where
  pub next : Item
  pub more : List Item
  pub first : p ≡ a ++ next ∷ more
  pub second : b ≡ next ∷ (more ++ w)

pub split : (a b p w : List Item) → a ++ b ≡ p ++ w → Over a b p w ⊎ Under a b p w
split a b [] w e = inl (record { more = a; first = refl; second = sym e })
split [] b (u ∷ c) w e = inr (record { next = u; more = c; first = refl; second = e })
split (x ∷ a) b (u ∷ p) w e =
    let heads : x ≡ u = cc in
    let tails : a ++ b ≡ p ++ w = cc in
    elim (split a b p w tails) [
      | inl h ↦ inl (record { more = h.more; first = cc (h.first, heads); second = h.second })
      | inr h ↦ inr (record { next = h.next; more = h.more; first = cc (h.first, heads); second = h.second })
    ]
