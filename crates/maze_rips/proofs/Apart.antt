-- Right moves keep the trees of nets apart.
use Rattle.std.proofs.Common.{◌≡◌, ◌≢◌, ℕ, ◌<◌, inl, inr, ⊎_elim, List, [], ◌∷◌, ◌++◌, Option, Some, None, refl, sym, ap, ◌∙◌, subst}
use Rattle.std.specs.Prelude.{flat_map, slice_get}
use Rattle.std.proofs.lemmas.Bool.{cases_eq, eq-eqb, ne_eqb}
use Rattle.vlsi_base.specs.Member.{In}
use Rattle.grid_core.specs.declared.grid.Node.{Node}
use Rattle.grid_core.specs.Grid.{IsPath, LeadsBack}
use Rattle.grid_core.specs.Routes.{Tree, NetRoutes, tree_nodes}
use Rattle.grid_core.specs.Trees.{IsFreeFor, Reach, IsTreeOver, AreRoutes, next_point}
use Rattle.grid_core.proofs.Growing.{routes_begin, routes_grow, path_either}
use Rattle.grid_core.proofs.Lists.{In_either}
use Rattle.grid_core.proofs.Owners.{first_or}
use Rattle.nero_maze.specs.Routing.{first_alone}
use Rattle.maze_nets.proofs.Lists.{get_in}
use Rattle.maze_rips.specs.Run.{Problem, Move, Begins, Joins, Rips, routes_after, without_paths, AreMoves}
use Rattle.maze_rips.specs.Law.{HasOwnPoints, MovesKeepTreesApart}
use Rattle.maze_rips.proofs.Working.{alone_nodes, tree_looser, tree_alone}

-- ---- nodes of a tree are free
reach_free : (free : Node → Type 0) (tree : List Node) (paths : List (List Node)) (points : List Node) → ((p : Node) → In p tree → free p) → Reach free tree paths points
    → (p : Node) → In p (flat_map (λ path. path) paths) → free p
reach_free free tree [] points all h p i = elim i [ ]
reach_free free tree (path ∷ paths) [] all h p i = absurd h
reach_free free tree (path ∷ paths) (q ∷ points) all h p i =
    let one : (x : Node) → In x path → free x = λ x j. ⊎_elim (λ f. f) (λ a. all x a) (path_either free tree q path h.0 x j) in
    ⊎_elim (λ a. one p a)
    (λ a. reach_free free (path ++ tree) paths points (λ x j. ⊎_elim (λ b. one x b) (λ b. all x b) (In_either path tree x j)) h.1 p a)
    (In_either path (flat_map (λ path. path) paths) p i)

nodes_free : (free : Node → Type 0) (points : List Node) (o : Option Tree) → IsTreeOver free points o → (p : Node) → In p (tree_nodes o) → free p
nodes_free free points None h p i = elim i [ ]
nodes_free free [] (Some t) h p i = absurd h
nodes_free free (q ∷ points) (Some t) h p i =
    let root : free t.start = subst free (sym h.0) h.1 in
    ⊎_elim (λ e. subst free (sym e) root)
    (λ a. reach_free free (t.start ∷ []) t.paths points (λ x j. ⊎_elim (λ e. subst free (sym e) root) (λ none. elim none [ ]) (first_or x t.start [] j)) h.2 p a)
    (first_or p t.start (flat_map (λ path. path) t.paths) i)

-- ---- a path leads from a tree that has begun
back_begun : (free : Node → Type 0) (q : Node) (rest : List Node) → LeadsBack free [] q rest → ⊥
back_begun free q [] h = elim h [ ]
back_begun free q (p ∷ rest) h = back_begun free p rest h.2

path_begun : (free : Node → Type 0) (q : Node) (path : List Node) → IsPath free [] q path → ⊥
path_begun free q [] h = h
path_begun free q (x ∷ rest) h = back_begun free x rest h.1

-- ---- one move
module _ (maze : Problem) (can : HasOwnPoints maze) (routes : NetRoutes) (are : AreRoutes maze.grid maze.reserved maze.points maze.nets routes) where
  first_free : (k : ℕ) (q : Node) → k < maze.nets → slice_get (maze.points k) 0 ≡ Some q → IsFreeFor maze.grid maze.reserved routes maze.nets k q
  first_free k q lt e =
      let mine = can.mine k q (get_in (maze.points k) 0 q e) in
      record {
        within = can.within k q lt mine;
        apart = λ j low ne i.
            let f = nodes_free (IsFreeFor maze.grid maze.reserved routes maze.nets j) (maze.points j) (routes j) (are j low) q i in
            f.kept k lt (λ e. ne (sym e)) mine;
        kept = λ j low ne i. ne (can.alone j k q low lt i mine);
      }

  joins_begun : (k : ℕ) (q : Node) (path : List Node) → IsPath (IsFreeFor maze.grid maze.reserved routes maze.nets k) (tree_nodes (routes k)) q path → (t : Tree) × (routes k ≡ Some t)
  joins_begun k q path is = by (routes k) refl
    where
      by : (o : Option Tree) → routes k ≡ o → (t : Tree) × (routes k ≡ Some t)
      by (Some t) e = (t, e)
      by None e = absurd (path_begun (IsFreeFor maze.grid maze.reserved routes maze.nets k) q path
          (subst (λ (o : Option Tree). IsPath (IsFreeFor maze.grid maze.reserved routes maze.nets k) (tree_nodes o) q path) e is))

  -- a net without its paths
  torn_same : (b j : ℕ) → j ≡ b → without_paths routes b j ≡ first_alone (routes b)
  torn_same b j e = rw (eq-eqb j b e) refl

  torn_other : (b j : ℕ) → j ≢ b → without_paths routes b j ≡ routes j
  torn_other b j ne = rw (ne_eqb j b ne) refl

  torn_fewer : (b j : ℕ) (p : Node) → In p (tree_nodes (without_paths routes b j)) → In p (tree_nodes (routes j))
  torn_fewer b j p i = elim (cases_eq j b) [
    | inl e ↦ subst (λ (n : ℕ). In p (tree_nodes (routes n))) (sym e) (alone_nodes (routes b) p (subst (λ (o : Option Tree). In p (tree_nodes o)) (torn_same b j e) i))
    | inr ne ↦ subst (λ (o : Option Tree). In p (tree_nodes o)) (torn_other b j ne) i
  ]

  torn_free : (b k : ℕ) (p : Node) → IsFreeFor maze.grid maze.reserved routes maze.nets k p → IsFreeFor maze.grid maze.reserved (without_paths routes b) maze.nets k p
  torn_free b k p f = record { within = f.within; apart = λ j lt ne i. f.apart j lt ne (torn_fewer b j p i); kept = f.kept }

  torn_apart : (b : ℕ) → AreRoutes maze.grid maze.reserved maze.points maze.nets (without_paths routes b)
  torn_apart b k lt = elim (cases_eq k b) [
    | inr ne ↦ subst (IsTreeOver (IsFreeFor maze.grid maze.reserved (without_paths routes b) maze.nets k) (maze.points k)) (sym (torn_other b k ne))
        (tree_looser (IsFreeFor maze.grid maze.reserved routes maze.nets k) (IsFreeFor maze.grid maze.reserved (without_paths routes b) maze.nets k) (torn_free b k) (maze.points k) (routes k) (are k lt))
    | inl e ↦ (
        let is : without_paths routes b k ≡ first_alone (routes k) = torn_same b k e ∙ ap (λ (n : ℕ). first_alone (routes n)) (sym e) in
        subst (IsTreeOver (IsFreeFor maze.grid maze.reserved (without_paths routes b) maze.nets k) (maze.points k)) (sym is)
        (tree_alone (IsFreeFor maze.grid maze.reserved routes maze.nets k) (IsFreeFor maze.grid maze.reserved (without_paths routes b) maze.nets k) (torn_free b k) (maze.points k) (routes k) (are k lt)))
  ]

-- ---- all moves
keep_routes : (maze : Problem) (moves : List Move) → HasOwnPoints maze → AreMoves maze moves → AreRoutes maze.grid maze.reserved maze.points maze.nets (routes_after moves)
keep_routes maze [] can h = λ k lt. tt
keep_routes maze (Begins k q ∷ before) can h =
    let are = keep_routes maze before can h.1 in
    let routes = routes_after before in
    let due = h.0.0 in
    let first : slice_get (maze.points k) 0 ≡ Some q = subst (λ (o : Option Tree). next_point (maze.points k) o ≡ Some q) h.0.1 due.lacks in
    routes_begin maze.grid maze.reserved maze.points maze.nets k routes q are due.known h.0.1 due.lacks (first_free maze can routes are k q due.known first)
keep_routes maze (Joins k path ∷ before) can h =
    let are = keep_routes maze before can h.1 in
    let routes = routes_after before in
    let q = h.0.0 in
    let due = h.0.1 in
    let least = h.0.2 in
    let t = joins_begun maze can routes are k q path least.leads in
    routes_grow maze.grid maze.reserved maze.points maze.nets k routes q path t.0 are due.known t.1 due.lacks least.leads
keep_routes maze (Rips r ∷ before) can h = torn_apart maze can (routes_after before) (keep_routes maze before can h.1) r.torn

pub moves_apart : MovesKeepTreesApart
moves_apart maze moves can h =
    let routes = routes_after moves in
    let trees = keep_routes maze moves can h in
    record {
      trees = trees;
      apart = λ j k q low lt a b. elim (cases_eq j k) [
        | inl e ↦ e
        | inr ne ↦ (
            let f = nodes_free (IsFreeFor maze.grid maze.reserved routes maze.nets k) (maze.points k) (routes k) (trees k lt) q b in
            absurd (f.apart j low ne a))
      ];
    }
