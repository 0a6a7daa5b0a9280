-- The lists of a table hold all their parts.
use Rattle.std.proofs.Common.{◌≡◌, ℕ, zero, suc, ◌+◌, ◌-◌, ◌<◌, ◌≤◌, ◌⊎◌, inl, inr, Bool, false, List, length, slice_get, Some, sym, ap, subst, ◌∙◌, arith}
use Rattle.std.specs.List.{Contains, slice_index_or}
use Rattle.std.proofs.lemmas.List.{get_or_default}
use Rattle.std.proofs.lemmas.Option.{slice_get-get_or}
use Rattle.bdd_core.specs.declared.node.Node.{Node}
use Rattle.bdd_core.specs.Truths.{Truths, constant, IsPart, IsUneven}
use Rattle.bdd_core.specs.Nodes.{raised_to, height, place, meaning, IsSound, AreSound, Lists, IsWhole}
use Rattle.bdd_core.proofs.Raised.{part-raised_to, raised_to-injective}
use Rattle.bdd_core.proofs.Pushing.{reduced}
use Rattle.bdd_core.proofs.Places.{height_at}

pub place_in : (lists : List Truths) (i : ℕ) (x : Truths) → i < length lists → place lists i ≡ x → Contains lists x
place_in lists i x within e = (i, within, get_or_default lists i x (constant false) within ∙ e)

pub at_place : (lists : List Truths) (x : Truths) (c : Contains lists x) → place lists c.0 ≡ x
at_place lists x c = get_or_default lists c.0 (constant false) x c.1 ∙ c.2

module _ (vars : ℕ) (nodes : List Node) (lists : List Truths) (s : AreSound vars nodes lists) where
  none_even : (t : Truths) (b : Bool) → t ≡ constant b → (x : Truths) → IsUneven x → IsPart x t → ⊥
  none_even t b e x uneven part = let q : x ≡ constant b = subst (λ (t : Truths). IsPart x t) e part in subst IsUneven q uneven

  closed_below : (n i : ℕ) → i < length lists → height (place lists i) < n → (x : Truths) → IsUneven x → IsPart x (place lists i) → Contains lists x
  closed_below zero i within small x uneven part = absurd (omega arith)
  closed_below (suc n) zero within small x uneven part = absurd (none_even (place lists 0) _ s.zero_is x uneven part)
  closed_below (suc n) (suc zero) within small x uneven part = absurd (none_even (place lists 1) _ s.one_is x uneven part)
  closed_below (suc n) (suc (suc k)) within small x uneven part =
      by (subst (λ (t : Truths). IsPart x t) is part) (λ j w h q. closed_below n j w h x uneven q)
    where
      w2 : k < length nodes
      w2 = omega (arith, within, s.count)

      node : Node
      node = slice_index_or nodes k (record { variable = 0; low = 0; high = 0 })

      at : slice_get nodes k ≡ Some node
      at = slice_get-get_or nodes k (record { variable = 0; low = 0; high = 0 }) w2

      two : k + 2 ≡ suc (suc k)
      two = omega arith

      sound : IsSound vars lists k node
      sound = s.sound k node at

      is : place lists (suc (suc k)) ≡ meaning vars lists node
      is = ap (λ (m : ℕ). place lists m) (sym two) ∙ sound.is

      high : node.variable + height (place lists (suc (suc k))) ≡ vars
      high = subst (λ (m : ℕ). node.variable + height (place lists m) ≡ vars) two (height_at vars nodes lists s k node at)

      by : ((x ≡ meaning vars lists node) ⊎ (IsPart x (raised_to (vars - (node.variable + 1)) (place lists node.low)) ⊎ IsPart x (raised_to (vars - (node.variable + 1)) (place lists node.high))))
          → ((j : ℕ) → j < length lists → height (place lists j) < n → IsPart x (place lists j) → Contains lists x) → Contains lists x
      by (inl e) rest = place_in lists (suc (suc k)) x within (is ∙ sym e)
      by (inr (inl q)) rest = rest node.low sound.low.within (omega (arith, sound.low.below, high, small)) (part-raised_to _ (place lists node.low) x uneven q)
      by (inr (inr q)) rest = rest node.high sound.high.within (omega (arith, sound.high.below, high, small)) (part-raised_to _ (place lists node.high) x uneven q)

  pub closed : (i : ℕ) → i < length lists → (x : Truths) → IsUneven x → IsPart x (place lists i) → Contains lists x
  closed i within x uneven part = closed_below (suc (height (place lists i))) i within (omega arith) x uneven part

pub whole_is : (d : Lists) (nodes : List Node) → AreSound d.vars nodes d.lists → IsWhole d
whole_is d nodes s = record {
  some = omega (arith, s.count);
  zero_is = s.zero_is;
  one_is = s.one_is;
  uneven = λ i w. s.uneven i (omega (arith, s.count, w));
  small = small_at;
  distinct = s.distinct;
  functions = λ i j wi wj e. s.distinct i j wi wj (raised_to-injective d.vars d.vars _ _ (reduced d.vars nodes d.lists s i wi) (reduced d.vars nodes d.lists s j wj) e);
  closed = closed d.vars nodes d.lists s;
}
  where
    node : ℕ → Node
    node k = slice_index_or nodes k (record { variable = 0; low = 0; high = 0 })

    small_at : (i : ℕ) → i < length d.lists → height (place d.lists i) ≤ d.vars
    small_at zero w = omega (arith, ap height s.zero_is)
    small_at (suc zero) w = omega (arith, ap height s.one_is)
    small_at (suc (suc k)) w =
        let two : k + 2 ≡ suc (suc k) = omega arith in
        let h : (node k).variable + height (place d.lists (suc (suc k))) ≡ d.vars =
        subst (λ (m : ℕ). (node k).variable + height (place d.lists m) ≡ d.vars) two (height_at d.vars nodes d.lists s k (node k) (slice_get-get_or nodes k _ (omega (arith, s.count, w)))) in
        omega arith
