-- The steps and vias along paths are those between neighbours.
use Rattle.std.proofs.Common.{◌≡◌, ⊎_elim, Bool, true, false, List, [], ◌∷◌, ◌++◌, map, Some, refl, sym, ap, ◌∙◌, subst, if◌then◌else◌}
use Rattle.std.specs.Prelude.{◌↔◌, flat_map}
use Rattle.vlsi_base.specs.Member.{In, here, there}
use Rattle.grid_core.specs.declared.grid.Node.{Node}
use Rattle.grid_core.specs.declared.routes.NetTree.{NetTree}
use Rattle.grid_core.specs.Shown.{shown_tree}
use Rattle.grid_core.proofs.Lists.{In_either, In_first, In_last}
use Rattle.maze_drawing.specs.Wiring.{AreBeside, in_order, turned, later, AreNeighbours}
use Rattle.maze_drawing.specs.Merge.{is_same_node}
use Rattle.maze_drawing.proofs.Merging.{same_so, same_itself, head_or}
use Rattle.maze_wires.specs.declared.links.Next.{Next}
use Rattle.maze_wires.specs.Links.{next_of, linked, links_from, links}

module _ (n : Next) where
  in_linked : (p q x : Node) → In x (linked n p q) → (x ≡ p) × (q ≡ next_of n x)
  in_linked p q x h = by (is_same_node q (next_of n p)) refl h
    where
      by : (v : Bool) → is_same_node q (next_of n p) ≡ v → In x (if v then p ∷ [] else []) → (x ≡ p) × (q ≡ next_of n x)
      by false e h = elim h [ ]
      by true e h = ⊎_elim (λ s. (s, same_so q (next_of n p) e ∙ ap (next_of n) (sym s))) (λ g. elim g [ ]) (head_or x p [] h)

  linked_in : (p q : Node) → q ≡ next_of n p → In p (linked n p q)
  linked_in p q e =
      let same : is_same_node q (next_of n p) ≡ true = subst (λ v. is_same_node q v ≡ true) e (same_itself q) in
      subst (λ v. In p (if v then p ∷ [] else [])) (sym same) here

  from_so : (p : Node) (rest : List Node) (x : Node) → In x (links_from n p rest) → AreBeside x (next_of n x) (p ∷ rest)
  from_so p [] x h = elim h [ ]
  from_so p (q ∷ rest) x h =
      ⊎_elim
      (λ g. let r = in_linked p q x g in subst (λ v. AreBeside x v (p ∷ (q ∷ rest))) r.1 (subst (λ v. AreBeside v q (p ∷ (q ∷ rest))) (sym r.0) in_order))
      (λ g. ⊎_elim
      (λ k. let r = in_linked q p x k in subst (λ v. AreBeside x v (p ∷ (q ∷ rest))) r.1 (subst (λ v. AreBeside v p (p ∷ (q ∷ rest))) (sym r.0) turned))
      (λ k. later (from_so q rest x k))
      (In_either (linked n q p) (links_from n q rest) x g))
      (In_either (linked n p q) (linked n q p ++ links_from n q rest) x h)

  links_so : (path : List Node) (x : Node) → In x (links n path) → AreBeside x (next_of n x) path
  links_so [] x h = elim h [ ]
  links_so (p ∷ rest) x h = from_so p rest x h

  one_more : (p : Node) (rest : List Node) (x : Node) → In x (links n rest) → In x (links_from n p rest)
  one_more p [] x h = elim h [ ]
  one_more p (q ∷ rest) x h = In_last (linked n p q) (linked n q p ++ links_from n q rest) x (In_last (linked n q p) (links_from n q rest) x h)

  links_all : (x y : Node) (path : List Node) → AreBeside x y path → y ≡ next_of n x → In x (links n path)
  links_all x y path (in_order {rest = rest}) e = In_first (linked n x y) (linked n y x ++ links_from n y rest) x (linked_in x y e)
  links_all x y path (turned {rest = rest}) e =
      In_last (linked n y x) (linked n x y ++ links_from n x rest) x (In_first (linked n x y) (links_from n x rest) x (linked_in x y e))
  links_all x y path (later {x = z} {rest = rest} h) e = one_more z rest x (links_all x y rest h e)

  -- of all paths
  paths_so : {A : Type 0} (items : A → List Node) (paths : List A) (x : Node) → In x (flat_map (λ path. links n (items path)) paths)
      → (path : List Node) × In path (map items paths) × AreBeside x (next_of n x) path
  paths_so items [] x h = elim h [ ]
  paths_so items (one ∷ paths) x h =
      ⊎_elim
      (λ g. (items one, here, links_so (items one) x g))
      (λ g. let r = paths_so items paths x g in (r.0, there r.1, r.2))
      (In_either (links n (items one)) (flat_map (λ path. links n (items path)) paths) x h)

  paths_all : {A : Type 0} (items : A → List Node) (paths : List A) (x : Node) (path : List Node) → In path (map items paths) → In x (links n path)
      → In x (flat_map (λ path. links n (items path)) paths)
  paths_all items [] x path h g = elim h [ ]
  paths_all items (one ∷ paths) x path h g =
      ⊎_elim
      (λ e. In_first (links n (items one)) (flat_map (λ path. links n (items path)) paths) x (subst (λ v. In x (links n v)) e g))
      (λ i. In_last (links n (items one)) (flat_map (λ path. links n (items path)) paths) x (paths_all items paths x path i g))
      (head_or path (items one) (map items paths) h)

  pub links_are : (tree : NetTree) (x : Node) → In x (flat_map (λ path. links n path.items) tree.paths.items) ↔ AreNeighbours (Some (shown_tree tree)) x (next_of n x)
  links_are tree x = (
    λ h. let r = paths_so (λ path. path.items) tree.paths.items x h in record { path = r.0; listed = r.1; beside = r.2 },
    λ h. paths_all (λ path. path.items) tree.paths.items x h.path h.listed (links_all x (next_of n x) h.path h.beside refl),
  )
