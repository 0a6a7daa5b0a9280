-- Where classes stand among some.
use Rattle.std.proofs.Common.{◌≡◌, ◌⊎◌, inl, inr, ℕ, zero, suc, ◌<◌, Bool, true, false, ◌||◌, cond, nat_eq, List, [], ◌∷◌, ◌++◌, length, Some, None, refl, sym, ap, subst, ◌∙◌, arith}
use Rattle.std.specs.Prelude.{slice_get}
use Rattle.std.proofs.lemmas.Bool.{cond-true, cond-false, eqb-true, eq-eqb}
use Rattle.std.proofs.lemmas.Option.{same_Some}
use Rattle.vlsi_base.specs.Member.{In, here, there}
use Rattle.ocp_place.specs.Nets.{is_among, place_among}
use Rattle.ocp_place.proofs.Lists.{unequal}

among_so : (k : ℕ) (ks : List ℕ) (c : ℕ) → (is_among ks c ≡ true → In c ks) → (b : Bool) → nat_eq k c ≡ b → (b || is_among ks c) ≡ true → In c (k ∷ ks)
among_so k ks c later true e h = subst (λ x. In x (k ∷ ks)) (eqb-true k c e) here
among_so k ks c later false e h = there (later h)

pub among_in : (ks : List ℕ) (c : ℕ) → is_among ks c ≡ true → In c ks
among_in [] c h = absurd (cc h)
among_in (k ∷ ks) c h = among_so k ks c (among_in ks c) (nat_eq k c) refl h

either : (a b : Bool) → (a ≡ true) ⊎ (b ≡ true) → (a || b) ≡ true
either true b h = refl
either false b (inl e) = absurd (cc e)
either false b (inr e) = e

pub in_among : (ks : List ℕ) (c : ℕ) → In c ks → is_among ks c ≡ true
in_among [] c i = elim i [ ]
in_among (k ∷ ks) c here = either (nat_eq c c) (is_among ks c) (inl (eq-eqb c c refl))
in_among (k ∷ ks) c (there i) = either (nat_eq k c) (is_among ks c) (inr (in_among ks c i))

-- a class that is there has a place at which it stands
pub placed : (ks : List ℕ) (c : ℕ) → In c ks → (place_among ks c < length ks) × (slice_get ks (place_among ks c) ≡ Some c)
placed [] c i = elim i [ ]
placed (k ∷ ks) c i = by (nat_eq k c) refl i (placed ks c) where
  later : (x : ℕ) → In x (k ∷ ks) → nat_eq k x ≡ false → In x ks
  later x here e = absurd (let t : true ≡ false = sym (eq-eqb x x refl) ∙ e in cc t)
  later x (there j) e = j

  by : (b : Bool) → nat_eq k c ≡ b → In c (k ∷ ks) → (In c ks → (place_among ks c < length ks) × (slice_get ks (place_among ks c) ≡ Some c))
      → (cond b 0 (suc (place_among ks c)) < length (k ∷ ks)) × (slice_get (k ∷ ks) (cond b 0 (suc (place_among ks c))) ≡ Some c)
  by true e j next = (omega arith, ap Some (eqb-true k c e))
  by false e j next = let r = next (later c j e) in let less = r.0 in (omega (arith, less), r.1)

-- one that isn't there has a place past them all
pub not_placed : (ks : List ℕ) (c : ℕ) → (In c ks → ⊥) → place_among ks c ≡ length ks
not_placed [] c none = refl
not_placed (k ∷ ks) c none =
    cond-false (nat_eq k c) 0 (suc (place_among ks c)) (unequal k c (λ e. none (subst (λ x. In x (k ∷ ks)) e here))) ∙ ap suc (not_placed ks c (λ i. none (there i)))

-- two classes of one place are one
pub one_place : (ks : List ℕ) (a b : ℕ) → In a ks → In b ks → place_among ks a ≡ place_among ks b → a ≡ b
one_place ks a b i j e = same_Some a b (sym (placed ks a i).1 ∙ ap (slice_get ks) e ∙ (placed ks b j).1)

-- a class stands first at this place
pub first_at : (ks rest : List ℕ) (k c : ℕ) → slice_get ks k ≡ Some c → ((j : ℕ) → j < k → slice_get ks j ≡ Some c → ⊥) → place_among (ks ++ rest) c ≡ k
first_at [] rest k c at none = let n : None ≡ Some c = at in absurd (cc n)
first_at (x ∷ ks) rest zero c at none = cond-true (nat_eq x c) 0 (suc (place_among (ks ++ rest) c)) (eq-eqb x c (same_Some x c at))
first_at (x ∷ ks) rest (suc k) c at none =
    cond-false (nat_eq x c) 0 (suc (place_among (ks ++ rest) c)) (unequal x c (λ e. none 0 (omega arith) (ap Some e)))
    ∙ ap suc (first_at ks rest k c at (λ j less. none (suc j) (omega (arith, less))))
