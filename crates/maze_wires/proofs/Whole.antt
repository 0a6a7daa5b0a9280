-- Sorted steps are merged to the wires of a tree, and its vias are those between neighbours and at terminals.
use Rattle.std.proofs.Common.{◌≡◌, ◌≢◌, ◌⊎◌, inl, inr, ⊎_elim, List, [], ◌∷◌, map, get_or, Option, None, Some, sym, ap, ◌∙◌, subst, arith}
use Rattle.std.specs.List.{All}
use Rattle.std.specs.Prelude.{◌↔◌, AllPairs, IsTrue, flat_map}
use Rattle.vlsi_base.specs.Member.{In, here, there}
use Rattle.grid_core.specs.declared.grid.Node.{Node}
use Rattle.grid_core.specs.declared.routes.NetTree.{NetTree}
use Rattle.grid_core.specs.Shown.{shown_tree}
use Rattle.grid_core.specs.Grid.{ahead, above}
use Rattle.grid_core.specs.Routes.{Tree, tree_nodes}
use Rattle.maze_drawing.specs.Wiring.{AreNeighbours, HasStep, HasVia, in_tree, at_terminal, IsGreatestRun, IsOnWire, IsWiringOf, wire_precedes, via_precedes}
use Rattle.maze_drawing.specs.Wiring as wiring
use Rattle.maze_drawing.specs.Merge.{step_precedes, merge}
use Rattle.maze_drawing.proofs.Unique.{pairs_rest, pairs_first}
use Rattle.maze_drawing.proofs.Rows.{In_contains}
use Rattle.maze_drawing.proofs.Merging.{head_or, merges_are_runs}
use Rattle.maze_wires.specs.declared.wires.Wire.{Wire}
use Rattle.maze_wires.specs.declared.wires.NetWires.{NetWires}
use Rattle.maze_wires.specs.Shown.{shown_wire, shown_net, comes_before}
use Rattle.maze_wires.specs.Feet.{IsFoot}
use Rattle.maze_wires.specs.declared.links.Next.TheVariants.{Ahead}
use Rattle.maze_wires.specs.Links as path_links
use Rattle.maze_wires.proofs.Neighbours.{links_are}
use Rattle.maze_wires.proofs.Merged.{In_at, pairs_cons, merged_apart}

in_map : {A B : Type 0} (f : A → B) (xs : List A) (x : A) → In x xs → In (f x) (map f xs)
in_map f [] x h = elim h [ ]
in_map f (y ∷ xs) x here = here
in_map f (y ∷ xs) x (there h) = there (in_map f xs x h)

map_in : {A B : Type 0} (f : A → B) (xs : List A) (y : B) → In y (map f xs) → (x : A) × In x xs × (y ≡ f x)
map_in f [] y h = elim h [ ]
map_in f (x ∷ xs) y h = ⊎_elim (λ e. (x, here, e)) (λ g. let r = map_in f xs y g in (r.0, there r.1, r.2)) (head_or y (f x) (map f xs) h)

pairs_from_map : {A B : Type 0} (R : B → B → Type 0) (f : A → B) (xs : List A) → AllPairs R (map f xs) → AllPairs (λ a b. R (f a) (f b)) xs
pairs_from_map R f [] all = λ i j d lt below. absurd (omega arith)
pairs_from_map R f (x ∷ xs) all =
    pairs_cons (λ a b. R (f a) (f b)) x xs (λ y h. pairs_first R (f x) (map f xs) all (f y) (in_map f xs y h)) (pairs_from_map R f xs (pairs_rest R (f x) (map f xs) all))

pairs_of_map : {A B : Type 0} (R : B → B → Type 0) (f : A → B) (xs : List A) → AllPairs (λ a b. R (f a) (f b)) xs → AllPairs R (map f xs)
pairs_of_map R f [] all = λ i j d lt below. absurd (omega arith)
pairs_of_map R f (x ∷ xs) all =
    pairs_cons R (f x) (map f xs)
    (λ y h. let r = map_in f xs y h in subst (R (f x)) (sym r.2) (pairs_first (λ a b. R (f a) (f b)) x xs all r.0 r.1))
    (pairs_of_map R f xs (pairs_rest (λ a b. R (f a) (f b)) x xs all))

-- ---- wires
-- links of a tree, sorted to steps, merged to wires, and these sorted
pub record AreMerged (t : Option Tree) (links steps : List Node) (made : List Wire) : Type 0 where
  pub found : (p : Node) → In p links ↔ AreNeighbours t p (ahead p 1)
  pub same : (p : Node) → In p steps ↔ In p links
  pub order : AllPairs (λ a b. IsTrue (step_precedes a b)) steps
  pub merged : map shown_wire made ≡ merge steps

pub merged_of : (tree : NetTree) (links steps slice : List Node) (made : List Wire) → links ≡ flat_map (λ path. path_links.links Ahead path.items) tree.paths.items
    → ((p : Node) → In p steps ↔ In p links) → AllPairs (λ a b. IsTrue (step_precedes a b)) steps → slice ≡ steps → map shown_wire made ≡ merge slice
    → AreMerged (Some (shown_tree tree)) links steps made
merged_of tree links steps slice made is same order value merged = record {
  found = subst (λ xs. (p : Node) → In p xs ↔ AreNeighbours (Some (shown_tree tree)) p (ahead p 1)) (sym is) (links_are Ahead tree);
  same = same;
  order = order;
  merged = merged ∙ ap merge value;
}

module _ (t : Option Tree) (links steps : List Node) (made : List Wire) (f : AreMerged t links steps made) where
  has : (p : Node) → In p steps ↔ HasStep t p
  has p = (λ h. (f.found p).0 ((f.same p).0 h), λ h. (f.same p).1 ((f.found p).1 h))

  pub different : AllPairs (λ v w. v.from ≢ w.from) made
  different =
      pairs_from_map (λ (v w : wiring.Wire). v.from ≢ w.from) shown_wire made
      (subst (λ ws. AllPairs (λ (v w : wiring.Wire). v.from ≢ w.from) ws) (sym f.merged) (merged_apart steps f.order))

  pub runs : (sorted : List Wire) → ((w : Wire) → In w sorted ↔ In w made) → (w : Wire) → In w sorted → IsGreatestRun t (shown_wire w)
  runs sorted kept w h =
      (merges_are_runs t steps f.order has).0 (shown_wire w) (subst (In (shown_wire w)) f.merged (in_map shown_wire made w ((kept w).0 h)))

  pub whole : (sorted : List Wire) → ((w : Wire) → In w sorted ↔ In w made) → (p : Node) → HasStep t p → (w : Wire) × In w sorted × IsOnWire (shown_wire w) p
  whole sorted kept p h =
      let r = (merges_are_runs t steps f.order has).1 p h in
      let m = map_in shown_wire made r.0 (subst (In r.0) (sym f.merged) r.1) in
      (m.0, (kept m.0).1 m.1, subst (λ v. IsOnWire v p) m.2 r.2)

-- what holds of all elements holds of all of a list with the same elements
pub all_same : (P : Node → Type 0) (xs ys : List Node) → ((p : Node) → In p ys ↔ In p xs) → All P xs → All P ys
all_same P xs ys same all k d lt =
    let r = In_contains xs (get_or ys k d) ((same (get_or ys k d)).0 (In_at ys k d lt)) in
    subst P r.2 (all r.0 (get_or ys k d) r.1)

-- ---- vias
pub vias_are : (t : Option Tree) (terminals links nodes some vias : List Node) → ((p : Node) → In p links ↔ AreNeighbours t p (above p)) → ((p : Node) → In p nodes ↔ In p (tree_nodes t))
    → ((v : Node) → In v some ↔ (In v links ⊎ IsFoot nodes terminals v)) → ((v : Node) → In v vias ↔ In v some) → (v : Node) → In v vias ↔ HasVia t terminals v
vias_are t terminals links nodes some vias are has feet same v = (
  λ h. ⊎_elim (λ g. in_tree ((are v).0 g)) (λ g. at_terminal g.low g.terminal ((has (above v)).0 g.node)) ((feet v).0 ((same v).0 h)),
  λ h. (same v).1 ((feet v).1 (by h)),
)
  where
    by : HasVia t terminals v → In v links ⊎ IsFoot nodes terminals v
    by (in_tree h) = inl ((are v).1 h)
    by (at_terminal m g i) = inr (record { low = m; terminal = g; node = (has (above v)).1 i })

-- ---- both
pub none_is : (terminals : List Node) (net : NetWires) → net.wires.items ≡ [] → net.vias.items ≡ [] → IsWiringOf None terminals (shown_net net)
none_is terminals net e f = record {
  runs = λ one h. elim (subst (λ ws. In one (map shown_wire ws)) e h) [ ];
  whole = λ p h. elim h.listed [ ];
  wire_order = subst (λ ws. AllPairs (λ a b. IsTrue (wire_precedes a b)) (map shown_wire ws)) (sym e) (λ i j d lt below. absurd (omega arith));
  vias = λ v. (λ h. elim (subst (In v) f h) [ ], λ h. by v h);
  via_order = subst (λ vs. AllPairs (λ a b. IsTrue (via_precedes a b)) vs) (sym f) (λ i j d lt below. absurd (omega arith));
}
  where
    by : (v : Node) → HasVia None terminals v → In v net.vias.items
    by v (in_tree h) = elim h.listed [ ]
    by v (at_terminal m g i) = elim i [ ]

pub wiring_is : (t : Option Tree) (terminals : List Node) (net : NetWires) → ((w : Wire) → In w net.wires.items → IsGreatestRun t (shown_wire w))
    → ((p : Node) → HasStep t p → (w : Wire) × In w net.wires.items × IsOnWire (shown_wire w) p) → AllPairs (λ a b. IsTrue (comes_before a b)) net.wires.items
    → ((v : Node) → In v net.vias.items ↔ HasVia t terminals v) → AllPairs (λ a b. IsTrue (via_precedes a b)) net.vias.items → IsWiringOf t terminals (shown_net net)
wiring_is t terminals net runs whole order vias via_order = record {
  runs = λ one h. let r = map_in shown_wire net.wires.items one h in subst (IsGreatestRun t) (sym r.2) (runs r.0 r.1);
  whole = λ p h. let r = whole p h in (shown_wire r.0, in_map shown_wire net.wires.items r.0 r.1, r.2);
  wire_order = pairs_of_map (λ a b. IsTrue (wire_precedes a b)) shown_wire net.wires.items order;
  vias = vias;
  via_order = via_order;
}
