-- The lists of parts, one number after the other.
use Rattle.std.proofs.Common.{◌≡◌, inl, inr, ℕ, Bool, List, [], ◌∷◌, ◌++◌, map, length, ap, sym, subst, ◌∙◌, arith, if◌then◌else◌}
use Rattle.std.specs.Global.{Vec}
use Rattle.net_theory.specs.Sources.{IsNumber}
use Rattle.graph_theory.specs.Graph.{Graph}
use Rattle.cell_match.specs.declared.cut.Cut.{Cut}
use Rattle.boog_cuts.proofs.Whole.{map_end}
use Rattle.boog_tree.specs.Trees.{is_inner}
use Rattle.boog_tree.specs.Cuts.{AreTreeCuts, AreParts, AreTreeParts}
use Rattle.boog_tree.specs.Joined.{HasItself}
use Rattle.boog_tree.proofs.Within.{cut_some}
use Rattle.boog_tree.proofs.Making.{parts_are}
use Rattle.boog_tree.proofs.Steps.{number_last, mapped_long}

module _ {K : ℕ} (held : ℕ) (g : Graph) where
  pub tree_parts_none : (parts : List (Vec (Cut K))) → parts ≡ [] → AreTreeParts held g parts
  tree_parts_none parts none x list h = absurd (subst (λ (vs : List (Vec (Cut K))). IsNumber (map (λ v. v.items) vs) x list) none h)

  pub tree_parts_more : (old new : List (Vec (Cut K))) (inner : Bool) (cuts : List (Cut K)) (added : Vec (Cut K)) → AreTreeParts held g old
      → inner ≡ is_inner held g (length old) → AreTreeCuts held g (length old) cuts → new ≡ old ++ added ∷ []
      → HasItself (length old) (if inner then cuts else []) added.items → AreTreeParts held g new
  tree_parts_more old new inner cuts added before is are more has x list h =
      let whole = ap (λ (vs : List (Vec (Cut K))). map (λ v. v.items) vs) more ∙ map_end (λ (v : Vec (Cut K)). v.items) old added in
      elim (number_last (map (λ v. v.items) old) added.items x list (subst (λ (ls : List (List (Cut K))). IsNumber ls x list) whole h)) [
        | inl in_front ↦ before x list in_front
        | inr last ↦
            let e = mapped_long (λ (v : Vec (Cut K)). v.items) old in
            let here : length old ≡ x = sym (last.0 ∙ e) in
            subst (λ (k : ℕ). AreParts held g k list) here
            (subst (λ (l : List (Cut K)). AreParts held g (length old) l) (sym last.1)
            (parts_are held g (length old) inner cuts added.items is (λ t. are) has))
      ]

  -- no cut has at most no members
  pub none_of_no_members : (x : ℕ) (cuts : List (Cut K)) → K ≡ 0 → cuts ≡ [] → AreTreeCuts held g x cuts
  none_of_no_members x cuts zero none = record {
    sound = λ i c at. absurd (subst (λ (l : List (Cut K)). IsNumber l i c) none at);
    every = λ members value cut few. let some = cut_some held g x members value cut in absurd (omega (arith, some, few, zero));
  }
