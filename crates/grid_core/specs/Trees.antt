-- Trees over the points of nets, and the routes of all nets.
use Rattle.std.specs.Prelude.{◌≡◌, ◌≢◌, ℕ, ◌<◌, ◌↔◌, Bool, ◌&&◌, ◌||◌, List, [], ◌∷◌, ◌++◌, Option, None, Some, AllPairs, IsTrue, length, nat_eq, nat_lt, slice_get}
use Prim.Native.Nat.{suc}
use Rattle.vlsi_base.specs.Member.{In}
use Rattle.grid_core.specs.declared.grid.Grid.{Grid}
use Rattle.grid_core.specs.declared.grid.Node.{Node}
use Rattle.grid_core.specs.Grid.{IsInGrid, IsPath, IsLeastPath}
use Rattle.grid_core.specs.Routes.{Tree, NetRoutes, tree_nodes, with_start, with_path}

-- each path leads to the next of these points, from the tree with the paths before it; points may be left
abbrev pub Reach : (Node → Type 0) → List Node → List (List Node) → List Node → Type 0
Reach free tree [] points = Unit {0}
Reach free tree (path ∷ paths) [] = ⊥
Reach free tree (path ∷ paths) (q ∷ points) = IsPath free tree q path × Reach free (path ++ tree) paths points

-- a tree over the points of a net in their order, that may yet lack some
abbrev pub IsTreeOver : (Node → Type 0) → List Node → Option Tree → Type 0
IsTreeOver free points None = Unit {0}
IsTreeOver free [] (Some t) = ⊥
IsTreeOver free (q ∷ points) (Some t) = (t.start ≡ q) × free q × Reach free (t.start ∷ []) t.paths points

-- the tree lacks none of its points
abbrev pub IsWhole : List Node → Option Tree → Type 0
IsWhole points None = points ≡ []
IsWhole points (Some t) = suc (length t.paths) ≡ length points

-- the node is free for net k: no other net has it in its tree, and it is reserved for no other
pub record IsFreeFor (g : Grid) (reserved : ℕ → List Node) (routes : NetRoutes) (nets k : ℕ) (p : Node) : Type 0 where
  pub within : IsInGrid g p
  pub apart : (j : ℕ) → j < nets → j ≢ k → In p (tree_nodes (routes j)) → ⊥
  pub kept : (j : ℕ) → j < nets → j ≢ k → In p (reserved j) → ⊥

-- ---- routes of all nets

-- each net has a tree over its points, on nodes that are free for it
abbrev pub AreRoutes : Grid → (ℕ → List Node) → (ℕ → List Node) → ℕ → NetRoutes → Type 0
AreRoutes g reserved points nets routes =
    (k : ℕ) → k < nets → IsTreeOver (IsFreeFor g reserved routes nets k) (points k) (routes k)

-- and none lacks a point
abbrev pub AreWhole : (ℕ → List Node) → ℕ → NetRoutes → Type 0
AreWhole points nets routes = (k : ℕ) → k < nets → IsWhole (points k) (routes k)

-- the point of the net that its tree lacks first
abbrev pub next_point : List Node → Option Tree → Option Node
next_point points None = slice_get points 0
next_point points (Some t) = slice_get points (suc (length t.paths))

-- Routes are begun, and grow path by path, from the first point that is lacking back to the tree.
abbrev pub RoutesBegin : Type 0
RoutesBegin =
    (g : Grid) (reserved points : ℕ → List Node) (nets k : ℕ) (routes : NetRoutes) (q : Node)
    → AreRoutes g reserved points nets routes → k < nets → routes k ≡ None → next_point (points k) (routes k) ≡ Some q
    → IsFreeFor g reserved routes nets k q → AreRoutes g reserved points nets (with_start routes k q)

abbrev pub RoutesGrow : Type 0
RoutesGrow =
    (g : Grid) (reserved points : ℕ → List Node) (nets k : ℕ) (routes : NetRoutes) (q : Node) (path : List Node) (t : Tree)
    → AreRoutes g reserved points nets routes → k < nets → routes k ≡ Some t → next_point (points k) (routes k) ≡ Some q
    → IsPath (IsFreeFor g reserved routes nets k) (tree_nodes (routes k)) q path
    → AreRoutes g reserved points nets (with_path routes k path)

-- ---- nets one after another

-- a node that net k may use when these nets have been routed: none of them has it in its tree, and it is reserved for no other net
pub record IsFreeAfter (g : Grid) (reserved : ℕ → List Node) (routes : NetRoutes) (nets : ℕ) (earlier : List ℕ) (k : ℕ) (p : Node) : Type 0 where
  pub within : IsInGrid g p
  pub apart : (j : ℕ) → In j earlier → In p (tree_nodes (routes j)) → ⊥
  pub kept : (j : ℕ) → j < nets → j ≢ k → In p (reserved j) → ⊥

-- each path is least among those that lead to its point from the tree with the paths before it
abbrev pub AreLeast : (Node → Type 0) → List Node → List (List Node) → List Node → Type 0
AreLeast free tree [] points = Unit {0}
AreLeast free tree (path ∷ paths) [] = ⊥
AreLeast free tree (path ∷ paths) (q ∷ points) = IsLeastPath free tree q path × AreLeast free (path ++ tree) paths points

-- a tree of least paths over the points of a net in their order, that may yet lack some
abbrev pub IsLeastTree : (Node → Type 0) → List Node → Option Tree → Type 0
IsLeastTree free points None = Unit {0}
IsLeastTree free [] (Some t) = ⊥
IsLeastTree free (q ∷ points) (Some t) = (t.start ≡ q) × free q × AreLeast free (t.start ∷ []) t.paths points

-- these nets, of which the last stands first, have trees of least paths that lack no point, each beside those of the nets before it
abbrev pub AreDone : Grid → (ℕ → List Node) → (ℕ → List Node) → ℕ → NetRoutes → List ℕ → Type 0
AreDone g reserved points nets routes [] = Unit {0}
AreDone g reserved points nets routes (k ∷ earlier) =
    IsLeastTree (IsFreeAfter g reserved routes nets earlier k) (points k) (routes k) × IsWhole (points k) (routes k)
    × AreDone g reserved points nets routes earlier

-- by half perimeter, then by number
abbrev pub net_precedes : (ℕ → ℕ) → ℕ → ℕ → Bool
net_precedes half_perimeter j k =
    nat_lt (half_perimeter j) (half_perimeter k) || (nat_eq (half_perimeter j) (half_perimeter k) && nat_lt j k)

-- all nets in this order
pub record IsNetOrder (half_perimeter : ℕ → ℕ) (nets : ℕ) (order : List ℕ) : Type 0 where
  pub each : (k : ℕ) → In k order ↔ (k < nets)
  pub ordered : AllPairs (λ j k. IsTrue (net_precedes half_perimeter j k)) order

-- Net k got stuck: the nets before it are done, the last one first, its tree of least paths lacks the point q, to which no free path
-- leads, and the nets after it have no tree.
pub record IsStuckAt (g : Grid) (reserved points : ℕ → List Node) (nets : ℕ) (routes : NetRoutes) (earlier later : List ℕ) (k : ℕ) (q : Node)
    : Type 0 where
  pub done : AreDone g reserved points nets routes earlier
  pub tree : Tree
  pub begun : routes k ≡ Some tree
  pub least : IsLeastTree (IsFreeAfter g reserved routes nets earlier k) (points k) (Some tree)
  pub next : next_point (points k) (Some tree) ≡ Some q
  pub none : (path : List Node) → IsPath (IsFreeAfter g reserved routes nets earlier k) (tree_nodes (Some tree)) q path → ⊥
  pub untouched : (j : ℕ) → In j later → routes j ≡ None
