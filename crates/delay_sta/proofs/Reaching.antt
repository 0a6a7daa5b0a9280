-- The classes to which paths go on from each class, as they are listed.
use Rattle.std.proofs.Common.{◌≡◌, ◌≢◌, ◌⊎◌, inl, inr, ℕ, zero, suc, ◌+◌, ◌<◌, true, false, List, [], ◌∷◌, ◌++◌, map, length, get_or, take, refl, sym, ap, ◌∙◌, subst, arith}
use Rattle.std.specs.Prelude.{◌↔◌, slice_set}
use Rattle.std.specs.Global.{Vec}
use Rattle.std.proofs.lemmas.List.{take_more, get_or-map, get_or-set_same, get_or-set_other, map-set, length-map}
use Rattle.net_core.specs.Places.{IsThere}
use Rattle.delay_sta.specs.declared.graph.TimedArc.{TimedArc}
use Rattle.delay_sta.specs.Graph.{numbers_of, IsOnward, AreOnward}
use Rattle.delay_sta.proofs.Grouping.{nothing_there, there_more}
use Rattle.delay_sta.proofs.Passing.{same_or_not}

pub numbers_at : (lists : List (Vec ℕ)) (class : ℕ) (v : Vec ℕ) → class < length lists → v ≡ get_or lists class v → numbers_of lists class ≡ v.items
numbers_at lists class v l e = get_or-map (λ (u : Vec ℕ). u.items) lists class v [] l ∙ ap (λ (u : Vec ℕ). u.items) (sym e)

-- no lists have numbers
pub empty_lists : (old : List (Vec ℕ)) (v : Vec ℕ) → v.items ≡ [] → ((class : ℕ) → numbers_of old class ≡ []) → (class : ℕ) → numbers_of (old ++ v ∷ []) class ≡ []
empty_lists [] v e before zero = e
empty_lists [] v e before (suc class) = refl
empty_lists (h ∷ old) v e before zero = before 0
empty_lists (h ∷ old) v e before (suc class) = empty_lists old v e (λ c. before (suc c)) class

pub nothing_onward : (lists : List (Vec ℕ)) → ((class : ℕ) → numbers_of lists class ≡ []) → AreOnward [] lists
nothing_onward lists empty from to =
    ((λ t. absurd (nothing_there to (subst (λ (xs : List ℕ). IsThere xs to) (empty from) t))), (λ w. absurd (nothing_there w.0 w.1)))

-- one more arc
more_onward : (arcs : List TimedArc) (x : TimedArc) (from to : ℕ) → IsOnward arcs from to → IsOnward (arcs ++ x ∷ []) from to
more_onward arcs x from to w = (w.0, (there_more arcs x w.0).1 (inl w.1), w.2, w.3, w.4)

pub onward_skip : (arcs : List TimedArc) (x : TimedArc) (lists : List (Vec ℕ)) → AreOnward arcs lists → x.begins ≡ true → AreOnward (arcs ++ x ∷ []) lists
onward_skip arcs x lists before begins from to = ((λ t. more_onward arcs x from to ((before from to).0 t)), two) where
  two : IsOnward (arcs ++ x ∷ []) from to → IsThere (numbers_of lists from) to
  two w = by ((there_more arcs x w.0).0 w.1) where
    by : IsThere arcs w.0 ⊎ (x ≡ w.0) → IsThere (numbers_of lists from) to
    by (inl t) = (before from to).1 (w.0, t, w.2, w.3, w.4)
    by (inr e) = let no : true ≡ false = sym begins ∙ ap (λ (y : TimedArc). y.begins) e ∙ w.2 in absurd cc

pub onward_push : (arcs : List TimedArc) (x : TimedArc) (lists : List (Vec ℕ)) (old new : Vec ℕ) → AreOnward arcs lists → x.begins ≡ false → x.from < length lists
    → old ≡ get_or lists x.from old → new.items ≡ old.items ++ x.to ∷ [] → AreOnward (arcs ++ x ∷ []) (slice_set lists x.from new)
onward_push arcs x lists old new before begins low is pushed from to = by (same_or_not from x.from) where
  mapped : map (λ (v : Vec ℕ). v.items) (slice_set lists x.from new) ≡ slice_set (map (λ (v : Vec ℕ). v.items) lists) x.from new.items
  mapped = map-set (λ (v : Vec ℕ). v.items) lists x.from new

  wide : x.from < length (map (λ (v : Vec ℕ). v.items) lists)
  wide = let m = length-map lists (λ (v : Vec ℕ). v.items) in omega (arith, low, m)

  at_own : numbers_of (slice_set lists x.from new) x.from ≡ numbers_of lists x.from ++ x.to ∷ []
  at_own =
      ap (λ (xs : List (List ℕ)). get_or xs x.from []) mapped ∙ get_or-set_same (map (λ (v : Vec ℕ). v.items) lists) x.from new.items [] wide
      ∙ pushed ∙ ap (λ (xs : List ℕ). xs ++ x.to ∷ []) (sym (numbers_at lists x.from old low is))

  at_other : from ≢ x.from → numbers_of (slice_set lists x.from new) from ≡ numbers_of lists from
  at_other ne = ap (λ (xs : List (List ℕ)). get_or xs from []) mapped ∙ get_or-set_other (map (λ (v : Vec ℕ). v.items) lists) x.from from new.items [] ne

  by : (from ≡ x.from) ⊎ (from ≢ x.from) → IsThere (numbers_of (slice_set lists x.from new) from) to ↔ IsOnward (arcs ++ x ∷ []) from to
  by (inl same) = (one, two) where
    at : numbers_of (slice_set lists x.from new) from ≡ numbers_of lists from ++ x.to ∷ []
    at = ap (numbers_of (slice_set lists x.from new)) same ∙ at_own ∙ ap (λ c. numbers_of lists c ++ x.to ∷ []) (sym same)

    one : IsThere (numbers_of (slice_set lists x.from new) from) to → IsOnward (arcs ++ x ∷ []) from to
    one t = elim ((there_more (numbers_of lists from) x.to to).0 (subst (λ (xs : List ℕ). IsThere xs to) at t)) [
      | inl u ↦ more_onward arcs x from to ((before from to).0 u)
      | inr e ↦ (x, (there_more arcs x x).1 (inr refl), begins, sym same, e)
    ]

    two : IsOnward (arcs ++ x ∷ []) from to → IsThere (numbers_of (slice_set lists x.from new) from) to
    two w = subst (λ (xs : List ℕ). IsThere xs to) (sym at) ((there_more (numbers_of lists from) x.to to).1 (found ((there_more arcs x w.0).0 w.1))) where
      found : IsThere arcs w.0 ⊎ (x ≡ w.0) → IsThere (numbers_of lists from) to ⊎ (x.to ≡ to)
      found (inl t) = inl ((before from to).1 (w.0, t, w.2, w.3, w.4))
      found (inr e) = inr (ap (λ (y : TimedArc). y.to) e ∙ w.4)
  by (inr ne) = (one, two) where
    one : IsThere (numbers_of (slice_set lists x.from new) from) to → IsOnward (arcs ++ x ∷ []) from to
    one t = more_onward arcs x from to ((before from to).0 (subst (λ (xs : List ℕ). IsThere xs to) (at_other ne) t))

    two : IsOnward (arcs ++ x ∷ []) from to → IsThere (numbers_of (slice_set lists x.from new) from) to
    two w = subst (λ (xs : List ℕ). IsThere xs to) (sym (at_other ne)) (found ((there_more arcs x w.0).0 w.1)) where
      found : IsThere arcs w.0 ⊎ (x ≡ w.0) → IsThere (numbers_of lists from) to
      found (inl t) = (before from to).1 (w.0, t, w.2, w.3, w.4)
      found (inr e) = absurd (ne (sym w.3 ∙ ap (λ (y : TimedArc). y.from) (sym e)))

pub next_onward : (arcs : List TimedArc) (k : ℕ) (x : TimedArc) (lists : List (Vec ℕ)) → k < length arcs → x ≡ get_or arcs k x → AreOnward (take k arcs ++ x ∷ []) lists → AreOnward (take (k + 1) arcs) lists
next_onward arcs k x lists l at h =
    subst (λ (xs : List TimedArc). AreOnward xs lists) (sym (take_more arcs k x l ∙ ap (λ (y : TimedArc). take k arcs ++ y ∷ []) (sym at))) h
