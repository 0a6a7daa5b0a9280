-- What stands at the places of a table is a whole truth list.
use Rattle.std.proofs.Common.{◌≡◌, ℕ, zero, suc, ◌+◌, ◌-◌, ◌<◌, List, length, refl, sym, ap, subst, ◌∙◌, arith, slice_get, Some}
use Rattle.std.specs.List.{slice_index_or}
use Rattle.std.proofs.lemmas.Option.{slice_get-get_or}
use Rattle.bdd_core.specs.declared.node.Node.{Node}
use Rattle.bdd_core.specs.Truths.{Truths, constant, halves}
use Rattle.bdd_core.specs.Nodes.{raised, raised_to, height, place, meaning, IsSound, AreSound}
use Rattle.bdd_core.specs.Decided.{IsBalanced}
use Rattle.bdd_core.proofs.Raised.{height-raised_to}
use Rattle.bdd_core.proofs.Places.{height_at}

balanced-raised : (j : ℕ) (t : Truths) → IsBalanced t → IsBalanced (raised j t)
balanced-raised zero t h = h
balanced-raised (suc j) t h = (refl, balanced-raised j t h, balanced-raised j t h)

pub balanced-raised_to : (h : ℕ) (t : Truths) → IsBalanced t → IsBalanced (raised_to h t)
unfolding raised_to
balanced-raised_to h t is = balanced-raised (h - height t) t is

module _ (vars : ℕ) (nodes : List Node) (lists : List Truths) (s : AreSound vars nodes lists) where
  abbrev node : ℕ → Node
  node k = slice_index_or nodes k (record { variable = 0; low = 0; high = 0 })

  -- by those of fewer variables
  balanced_below : (n i : ℕ) → i < length lists → height (place lists i) < n → IsBalanced (place lists i)
  balanced_below zero i within small = absurd (omega (arith, small))
  balanced_below (suc n) zero within small = subst IsBalanced (sym s.zero_is) tt
  balanced_below (suc n) (suc zero) within small = subst IsBalanced (sym s.one_is) tt
  balanced_below (suc n) (suc (suc k)) within small =
      let two : k + 2 ≡ suc (suc k) = omega arith in
      let at : slice_get nodes k ≡ Some (node k) = slice_get-get_or nodes k _ (omega (arith, s.count, within)) in
      let sound : IsSound vars lists k (node k) = s.sound k (node k) at in
      let high = height_at vars nodes lists s k (node k) at in
      let is : place lists (suc (suc k)) ≡ meaning vars lists (node k) = ap (λ (m : ℕ). place lists m) (sym two) ∙ sound.is in
      let same = ap (λ (m : ℕ). height (place lists m)) two in
      let low_below = sound.low.below in
      let high_below = sound.high.below in
      let left = height-raised_to (vars - ((node k).variable + 1)) (place lists (node k).low) (omega (arith, low_below)) in
      let right = height-raised_to (vars - ((node k).variable + 1)) (place lists (node k).high) (omega (arith, high_below)) in
      subst IsBalanced (sym is) (
        left ∙ sym right,
        balanced-raised_to (vars - ((node k).variable + 1)) (place lists (node k).low)
            (balanced_below n (node k).low sound.low.within (omega (arith, low_below, high, same, small))),
        balanced-raised_to (vars - ((node k).variable + 1)) (place lists (node k).high)
            (balanced_below n (node k).high sound.high.within (omega (arith, high_below, high, same, small))),
      )

  pub balanced : (i : ℕ) → i < length lists → IsBalanced (place lists i)
  balanced i within = balanced_below (suc (height (place lists i))) i within (omega arith)
