-- The states of a branch that are kept.
use Rattle.std.proofs.Common.{◌≡◌, ℕ, ◌==◌, ◌<◌, ◌≤◌, Bool, true, false, ◌||◌, List, [], ◌∷◌, map, filter, length, if◌then◌else◌, ◌⊎◌, inl, inr, refl, sym, ap, ◌∙◌, subst, arith}
use Rattle.std.proofs.lemmas.Bool.{eqb-true, eqb-false, eq-eqb, ne_eqb, or_left, or_right, or_cases}
use Rattle.bool_expr.specs.Support.{among}
use Rattle.vlsi_base.specs.Member.{In, here, there, AllDifferent}
use Rattle.fsm_merge.specs.Numbering.{nth, IsNumbering}
use Rattle.fsm_merge.specs.Merged.{is_kept, kept_of}
use Rattle.fsm_merge.proofs.Pigeons.{pigeons}
use Rattle.fsm_merge.proofs.Members.{in_cons}

-- there are no more new states than old ones
pub fewer : (n : ℕ) (c k : List ℕ) → IsNumbering n c k → length k ≤ n
fewer n c k h = pigeons (length k) n (nth k) (λ p l. (h.own p l).0) (λ p q a b e. sym (h.own p a).1 ∙ ap (nth c) e ∙ (h.own q b).1)

-- a new state stands for a state that is kept exactly where that is the one
test_same : (n : ℕ) (c k : List ℕ) → IsNumbering n c k → (p x : ℕ) → p < length k → nth k (nth c x) ≡ x → (nth c x == p) ≡ (x == nth k p)
test_same n c k h p x l keeps = by (x == nth k p) refl where
  by : (t : Bool) → (x == nth k p) ≡ t → (nth c x == p) ≡ t
  by true e = eq-eqb (nth c x) p (ap (nth c) (eqb-true x (nth k p) e) ∙ (h.own p l).1)
  by false e = ne_eqb (nth c x) p (λ q. eqb-false x (nth k p) e (sym keeps ∙ ap (nth k) q))

-- what isn't kept is no kept state
test_other : (n : ℕ) (c k : List ℕ) → IsNumbering n c k → (p x : ℕ) → p < length k → (nth k (nth c x) ≡ x → ⊥) → (x == nth k p) ≡ false
test_other n c k h p x l lost = ne_eqb x (nth k p) (λ e. lost (ap (λ y. nth k (nth c y)) e ∙ ap (nth k) (h.own p l).1 ∙ sym e))

-- a new state stands in the new branch exactly where its kept one stands in the old branch
pub among_kept : (n : ℕ) (c k : List ℕ) → IsNumbering n c k → (p : ℕ) → p < length k → (states : List ℕ) → among p (kept_of c k states) ≡ among (nth k p) states
among_kept n c k h p l [] = refl
among_kept n c k h p l (x ∷ xs) = by (is_kept c k x) refl (among_kept n c k h p l xs) where
  by : (t : Bool) → is_kept c k x ≡ t → among p (kept_of c k xs) ≡ among (nth k p) xs
      → among p (map (nth c) (if t then x ∷ filter (is_kept c k) xs else filter (is_kept c k) xs)) ≡ ((x == nth k p) || among (nth k p) xs)
  by true e later = rw (test_same n c k h p x l (eqb-true (nth k (nth c x)) x e), later) refl
  by false e later = rw (test_other n c k h p x l (eqb-false (nth k (nth c x)) x e)) later

-- and each is that of a state that is kept
pub kept_from : (c k : List ℕ) (p : ℕ) (states : List ℕ) → among p (kept_of c k states) ≡ true
    → (s : ℕ) × (among s states ≡ true) × (nth c s ≡ p) × (nth k p ≡ s)
kept_from c k p [] a = absurd (cc)
kept_from c k p (x ∷ xs) a = by (is_kept c k x) refl (kept_from c k p xs) a where
  later : ((s : ℕ) × (among s xs ≡ true) × (nth c s ≡ p) × (nth k p ≡ s)) → (s : ℕ) × (((x == s) || among s xs) ≡ true) × (nth c s ≡ p) × (nth k p ≡ s)
  later g = (g.0, or_right (x == g.0) (among g.0 xs) g.1, g.2, g.3)

  by : (t : Bool) → is_kept c k x ≡ t → (among p (kept_of c k xs) ≡ true → (s : ℕ) × (among s xs ≡ true) × (nth c s ≡ p) × (nth k p ≡ s))
      → among p (map (nth c) (if t then x ∷ filter (is_kept c k) xs else filter (is_kept c k) xs)) ≡ true
      → (s : ℕ) × (((x == s) || among s xs) ≡ true) × (nth c s ≡ p) × (nth k p ≡ s)
  by true e rest a = elim (or_cases (nth c x == p) (among p (kept_of c k xs)) a) [
    | inl first ↦ (let is = eqb-true (nth c x) p first in
        (x, or_left (x == x) (among x xs) (eq-eqb x x refl), is, ap (nth k) (sym is) ∙ eqb-true (nth k (nth c x)) x e))
    | inr more ↦ later (rest more)
  ]
  by false e rest a = later (rest a)

-- a branch names each new state once
in_among : (x : ℕ) (xs : List ℕ) → In x xs → among x xs ≡ true
in_among x [] i = elim i [ ]
in_among x (y ∷ xs) here = or_left (x == x) (among x xs) (eq-eqb x x refl)
in_among x (y ∷ xs) (there i) = or_right (y == x) (among x xs) (in_among x xs i)

among_in : (x : ℕ) (xs : List ℕ) → among x xs ≡ true → In x xs
among_in x [] a = absurd (cc)
among_in x (y ∷ xs) a = elim (or_cases (y == x) (among x xs) a) [
  | inl first ↦ (let P : ℕ → Type 0 = λ z. In z (y ∷ xs) in subst P (eqb-true y x first) here)
  | inr more ↦ there (among_in x xs more)
]

pub kept_differ : (c k states : List ℕ) → AllDifferent states → AllDifferent (kept_of c k states)
kept_differ c k [] d = tt
kept_differ c k (x ∷ xs) d = by (is_kept c k x) refl (kept_differ c k xs d.1) where
  by : (t : Bool) → is_kept c k x ≡ t → AllDifferent (kept_of c k xs) → AllDifferent (map (nth c) (if t then x ∷ filter (is_kept c k) xs else filter (is_kept c k) xs))
  by true e later = (
    λ i. (let g = kept_from c k (nth c x) xs (in_among (nth c x) (kept_of c k xs) i) in
        let same : g.0 ≡ x = sym g.3 ∙ eqb-true (nth k (nth c x)) x e in
        let P : ℕ → Type 0 = λ s. In s xs in
        d.0 (subst P same (among_in g.0 xs g.1))),
    later,
  )
  by false e later = later
