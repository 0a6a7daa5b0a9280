-- A search among the shapes within which one lies.
use Rattle.std.proofs.Common.{◌≡◌, ℕ, zero, suc, [], ◌∷◌, ◌+◌, ◌<◌, ◌≤◌, inl, inr, List, length, get_or, sym, ◌∙◌, ap, subst, arith}
use Rattle.std.specs.List.Sorted.{IsNonDecreasingBy}
use Rattle.std.proofs.lemmas.Bool.{cases_lt}
use Rattle.sym_shapes.specs.Shape.{Shape}
use Rattle.cell_model.proofs.Members.{In-at}
use Rattle.sym_near.specs.declared.near.Relation.TheVariants as relation
use Rattle.sym_near.specs.declared.near.Pair.{Pair}
use Rattle.sym_near.proofs.Sweeps.{at_any}
use Rattle.sym_near.specs.Related.{pair, shape_at, Relates, AreRelated}
use Rattle.druc_rules.specs.Excuses.{Excuses, IsCovered, IsFirstFrom}
use Rattle.druc_rules.proofs.Places.{Rising, rising_so}

abbrev pub holder : List Pair → ℕ → Pair
holder ps k = get_or ps k (record { first = 0; second = 0 })

-- none of the pairs below n that begin with the first covers it
abbrev pub NoneCovers : List Shape → List Pair → ℕ → ℕ → ℕ → Type 0
NoneCovers all ps i j n = (k : ℕ) → k < n → k < length ps → (holder ps k).first ≡ i
    → Excuses (shape_at all i) (shape_at all j) (shape_at all (holder ps k).second) → ⊥

-- a sorted list doesn't fall
rises : (ps : List Pair) → Rising ps → (i j : ℕ) (d : Pair) → i ≤ j → j < length ps → (get_or ps i d).first ≤ (get_or ps j d).first
rises [] r i j d le low = absurd (omega arith)
rises (p ∷ ps) r zero zero d le low = omega arith
rises (p ∷ ps) r zero (suc j) d le low =
    elim (r.0 (get_or ps j d) (In-at ps j d (omega arith))) [ inl lt ↦ omega (arith, lt) | inr h ↦ let e = h.0 in omega (arith, e) ]
rises (p ∷ ps) r (suc i) zero d le low = absurd (omega arith)
rises (p ∷ ps) r (suc i) (suc j) d le low = rises ps r.1 i j d (omega arith) (omega arith)

pub does_not_fall : (all : List Shape) (ps : List Pair) → AreRelated all relation.Held ps → IsNonDecreasingBy (λ (p : Pair). p.first) ps
does_not_fall all ps are i j d le low = rises ps (rising_so ps are.sorted) i j d le low

module _ (all : List Shape) (ps : List Pair) (i j : ℕ) (are : AreRelated all relation.Held ps) where
  -- the pair at a place holds
  pub holds_at : (k : ℕ) → k < length ps → Relates all relation.Held (holder ps k).first (holder ps k).second
  holds_at k low = are.sound (holder ps k) (k, low, at_any ps k (holder ps k) (record { first = 0; second = 0 }) low)

  pub none_before : (n : ℕ) → IsFirstFrom ps i n → NoneCovers all ps i j n
  none_before n first k low within is h = let below = first.below k (record { first = 0; second = 0 }) low in omega (arith, below, is)

  pub none_more : (n : ℕ) → NoneCovers all ps i j n → (Excuses (shape_at all i) (shape_at all j) (shape_at all (holder ps n).second) → ⊥) → NoneCovers all ps i j (n + 1)
  none_more n none own k low within is h = elim (cases_lt k n) [
    | inl lt ↦ none k lt within is h
    | inr ge ↦ let e : k ≡ n = omega arith in own (subst (λ (x : ℕ). Excuses (shape_at all i) (shape_at all j) (shape_at all (holder ps x).second)) e h)
  ]

  pub covers_at : (k : ℕ) → k < length ps → (holder ps k).first ≡ i → Excuses (shape_at all i) (shape_at all j) (shape_at all (holder ps k).second) → IsCovered all i j
  covers_at k low is h = record {
    third = (holder ps k).second;
    holds = subst (λ (x : ℕ). Relates all relation.Held x (holder ps k).second) is (holds_at k low);
    excuses = h;
  }

  -- where the pairs that begin with the first are over, none covers it
  pub none_at_end : (n : ℕ) → NoneCovers all ps i j n → ((k : ℕ) → n ≤ k → k < length ps → (holder ps k).first ≡ i → ⊥) → IsCovered all i j → ⊥
  none_at_end n none over c =
      let at = are.whole i c.third c.holds in
      let k : ℕ = at.0 in
      let low : k < length ps = at.1 in
      let is : holder ps k ≡ pair i c.third = at_any ps k (record { first = 0; second = 0 }) (pair i c.third) low ∙ at.2 in
      let first : (holder ps k).first ≡ i = ap (λ (p : Pair). p.first) is in
      elim (cases_lt k n) [
        | inl lt ↦ none k lt low first (subst (λ (x : ℕ). Excuses (shape_at all i) (shape_at all j) (shape_at all x)) (sym (ap (λ (p : Pair). p.second) is)) c.excuses)
        | inr ge ↦ over k ge low first
      ]

  -- once a pair that isn't before them begins with another, they are over
  pub over_from : (n : ℕ) → IsFirstFrom ps i n → (m : ℕ) → n ≤ m → ((holder ps m).first ≡ i → ⊥) → (k : ℕ) → m ≤ k → k < length ps → (holder ps k).first ≡ i → ⊥
  over_from n first m after other k from low is =
      let least = first.behind m (record { first = 0; second = 0 }) after (omega arith) in
      let up = does_not_fall all ps are m k (record { first = 0; second = 0 }) from low in
      other (omega (arith, least, up, is))
