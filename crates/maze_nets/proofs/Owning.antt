-- Which nodes are free for a net is told by their owners: the nets that have them in their trees or for which they are reserved.
use Rattle.std.proofs.Common.{◌≡◌, ◌≢◌, ℕ, ◌⊎◌, inl, inr, ⊎_elim, List, length, Option, Some, None, refl, sym, ap, ◌∙◌, subst}
use Rattle.std.specs.Prelude.{◌↔◌}
use Rattle.std.proofs.lemmas.Bool.{cases_eq}
use Rattle.vlsi_base.specs.Member.{In}
use Rattle.grid_core.specs.declared.grid.Grid.{Grid}
use Rattle.grid_core.specs.declared.grid.Node.{Node}
use Rattle.grid_core.specs.Grid.{IsInGrid}
use Rattle.grid_core.specs.Owners.{owner_of, IsFree, IsTaken}
use Rattle.grid_core.specs.Routes.{NetRoutes, tree_nodes}
use Rattle.grid_core.specs.Trees.{IsFreeFor, IsFreeAfter}
use Rattle.nero_maze.specs.Routing.{Routing, tree_of}
use Rattle.maze_nets.specs.declared.points.NetPoints.{NetPoints}
use Rattle.maze_nets.specs.Nets.{net_reserved, AreRoutable}
use Rattle.maze_nets.specs.Progress.{AreOwned}
use Rattle.maze_nets.proofs.Lists.{some_same, cases_in, reserved_below}

one_owner : (o : Option ℕ) (j k : ℕ) → o ≡ Some j → (o ≡ None) ⊎ (o ≡ Some k) → j ≡ k
one_owner o j k e f = ⊎_elim (λ n. absurd (let both : ◌≡◌ {A = Option ℕ} (Some j) None = sym e ∙ n in cc both)) (λ s. some_same j k (sym e ∙ s)) f

-- a node that is free for net k by its owner
module _ (g : Grid) (nets : List NetPoints) (r : Routing) (owned : AreOwned g nets r) (k : ℕ) where
  pub free_grid : (p : Node) → IsFree r.occupied k p → IsInGrid g p
  free_grid p f = subst (λ (h : Grid). IsInGrid h p) owned.grid f.within

  pub free_in_grid : (p : Node) → IsInGrid g p → (owner_of r.occupied p ≡ None) ⊎ (owner_of r.occupied p ≡ Some k) → IsFree r.occupied k p
  free_in_grid p h f = record { within = subst (λ (h : Grid). IsInGrid h p) (sym owned.grid) h; apart = f }

  pub tree_free : (p : Node) → In p (tree_nodes (tree_of r k)) → IsFree r.occupied k p
  tree_free p i = free_in_grid p (owned.within k p i) (inr (owned.trees k p i))

  pub free_for : (p : Node) → IsFree r.occupied k p → IsFreeFor g (net_reserved nets) (tree_of r) (length nets) k p
  free_for p f = record {
    within = free_grid p f;
    apart = λ j lt ne i. ne (one_owner (owner_of r.occupied p) j k (owned.trees j p i) f.apart);
    kept = λ j lt ne i. ne (one_owner (owner_of r.occupied p) j k (owned.reserved j p i) f.apart);
  }

  -- beside nets that have been routed, where no other net but k has a tree
  pub free_after : (routes : NetRoutes) (earlier : List ℕ) → (In k earlier → ⊥) → ((j : ℕ) → In j earlier → routes j ≡ tree_of r j)
      → (p : Node) → IsFree r.occupied k p → IsFreeAfter g (net_reserved nets) routes (length nets) earlier k p
  free_after routes earlier out same p f = record {
    within = free_grid p f;
    apart = λ j e i. out (subst (λ (n : ℕ). In n earlier) (one_owner (owner_of r.occupied p) j k (owned.trees j p (subst (λ t. In p (tree_nodes t)) (same j e) i)) f.apart) e);
    kept = λ j lt ne i. ne (one_owner (owner_of r.occupied p) j k (owned.reserved j p i) f.apart);
  }

  pub after_free : (routes : NetRoutes) (earlier : List ℕ) → ((j : ℕ) → In j earlier → routes j ≡ tree_of r j) → ((j : ℕ) → (In j earlier → ⊥) → tree_of r j ≡ None)
      → (p : Node) → IsFreeAfter g (net_reserved nets) routes (length nets) earlier k p → IsFree r.occupied k p
  after_free routes earlier same bare p f = free_in_grid p f.within (by (owner_of r.occupied p) refl)
    where
      by : (o : Option ℕ) → owner_of r.occupied p ≡ o → (owner_of r.occupied p ≡ None) ⊎ (owner_of r.occupied p ≡ Some k)
      by None e = inl e
      by (Some j) e = elim (cases_eq j k) [
        | inl s ↦ inr (e ∙ ap (λ (n : ℕ). Some n) s)
        | inr ne ↦ absurd (elim (owned.owned j p f.within e) [
          | inl i ↦ (
              let out : In j earlier → ⊥ = λ m. f.apart j m (subst (λ t. In p (tree_nodes t)) (sym (same j m)) i) in
              let none : In p (tree_nodes None) = subst (λ t. In p (tree_nodes t)) (bare j out) i in
              elim none [ ])
          | inr i ↦ f.kept j (reserved_below nets j p i) ne i
        ])
      ]

-- ---- one net takes nodes that were free for it
pub record Takes (k : ℕ) (path : List Node) (old new : Routing) : Type 0 where
  pub taken : IsTaken old.occupied k path new.occupied
  pub free : (p : Node) → In p path → IsFree old.occupied k p
  pub others : (j : ℕ) → j ≢ k → tree_of new j ≡ tree_of old j
  pub either : (p : Node) → In p (tree_nodes (tree_of new k)) → In p (tree_nodes (tree_of old k)) ⊎ In p path
  pub before : (p : Node) → In p (tree_nodes (tree_of old k)) → In p (tree_nodes (tree_of new k))
  pub added : (p : Node) → In p path → In p (tree_nodes (tree_of new k))

module _ (g : Grid) (nets : List NetPoints) (can : AreRoutable g nets) (k : ℕ) (path : List Node) (old new : Routing) (owned : AreOwned g nets old) (t : Takes k path old new) where
  old_grid : (p : Node) → IsInGrid g p → IsInGrid old.occupied.grid p
  old_grid p h = subst (λ (h : Grid). IsInGrid h p) (sym owned.grid) h

  owner_stays : (j : ℕ) (p : Node) → IsInGrid g p → owner_of old.occupied p ≡ Some j → owner_of new.occupied p ≡ Some j
  owner_stays j p h e = elim (cases_in p path) [
    | inl i ↦ t.taken.mine p i ∙ ap (λ (n : ℕ). Some n) (sym (one_owner (owner_of old.occupied p) j k e (t.free p i).apart))
    | inr out ↦ t.taken.others p (old_grid p h) out ∙ e
  ]

  from_new : (j : ℕ) (p : Node) → In p (tree_nodes (tree_of new j)) → In p (tree_nodes (tree_of old j)) ⊎ ((j ≡ k) × In p path)
  from_new j p i = elim (cases_eq j k) [
    | inl e ↦ ⊎_elim (λ a. inl (subst (λ (n : ℕ). In p (tree_nodes (tree_of old n))) (sym e) a)) (λ a. inr (e, a)) (t.either p (subst (λ (n : ℕ). In p (tree_nodes (tree_of new n))) e i))
    | inr ne ↦ inl (subst (λ tree. In p (tree_nodes tree)) (t.others j ne) i)
  ]

  to_new : (j : ℕ) (p : Node) → In p (tree_nodes (tree_of old j)) → In p (tree_nodes (tree_of new j))
  to_new j p i = elim (cases_eq j k) [
    | inl e ↦ subst (λ (n : ℕ). In p (tree_nodes (tree_of new n))) (sym e) (t.before p (subst (λ (n : ℕ). In p (tree_nodes (tree_of old n))) e i))
    | inr ne ↦ subst (λ tree. In p (tree_nodes tree)) (sym (t.others j ne)) i
  ]

  pub owned_still : AreOwned g nets new
  owned_still = record {
    grid = t.taken.grid ∙ owned.grid;
    within = λ j p i. ⊎_elim (λ a. owned.within j p a) (λ a. free_grid g nets old owned k p (t.free p a.1)) (from_new j p i);
    trees = λ j p i. ⊎_elim (λ a. owner_stays j p (owned.within j p a) (owned.trees j p a)) (λ a. t.taken.mine p a.1 ∙ ap (λ (n : ℕ). Some n) (sym a.0)) (from_new j p i);
    reserved = λ j p i. owner_stays j p (can.within j p i) (owned.reserved j p i);
    owned = λ j p h e. elim (cases_in p path) [
      | inl i ↦ inl (subst (λ (n : ℕ). In p (tree_nodes (tree_of new n))) (some_same k j (sym (t.taken.mine p i) ∙ e)) (t.added p i))
      | inr out ↦ ⊎_elim (λ a. inl (to_new j p a)) (λ a. inr a) (owned.owned j p h (sym (t.taken.others p (old_grid p h) out) ∙ e))
    ];
  }

  -- what is free for the net stays the same
  pub free_still : (p : Node) → IsFree new.occupied k p ↔ IsFree old.occupied k p
  free_still p = (
    λ f. elim (cases_in p path) [
      | inl i ↦ t.free p i
      | inr out ↦ (
          let h = free_grid g nets new owned_still k p f in
          free_in_grid g nets old owned k p h (subst (λ o. (o ≡ None) ⊎ (o ≡ Some k)) (t.taken.others p (old_grid p h) out) f.apart))
    ],
    λ f. elim (cases_in p path) [
      | inl i ↦ free_in_grid g nets new owned_still k p (free_grid g nets old owned k p f) (inr (t.taken.mine p i))
      | inr out ↦ free_in_grid g nets new owned_still k p (free_grid g nets old owned k p f) (subst (λ o. (o ≡ None) ⊎ (o ≡ Some k)) (sym (t.taken.others p f.within out)) f.apart)
    ],
  )
