-- What is true of a router between two nets, and what the routing of one net adds.
use Rattle.std.specs.Prelude.{◌≡◌, ◌≢◌, ℕ, ◌⊎◌, List, None, Some, length, slice_get}
use Prim.Native.Nat.{suc}
use Rattle.vlsi_base.specs.Member.{In}
use Rattle.grid_core.specs.declared.grid.Grid.{Grid}
use Rattle.grid_core.specs.declared.grid.Node.{Node}
use Rattle.grid_core.specs.Grid.{IsInGrid, IsPath}
use Rattle.grid_core.specs.Owners.{Owners, owner_of, IsFree}
use Rattle.grid_core.specs.Routes.{Tree, tree_nodes}
use Rattle.grid_core.specs.Trees.{AreRoutes, IsLeastTree, AreDone}
use Rattle.nero_maze.specs.Routing.{Routing, tree_of}
use Rattle.maze_nets.specs.declared.points.NetPoints.{NetPoints}
use Rattle.maze_nets.specs.Nets.{net_points, net_reserved}

-- a node is owned by the net for which it is reserved, and else by none
pub record AreReserved (g : Grid) (reserved : ℕ → List Node) (o : Owners) : Type 0 where
  pub grid : o.grid ≡ g
  pub mine : (k : ℕ) (p : Node) → In p (reserved k) → owner_of o p ≡ Some k
  pub owned : (k : ℕ) (p : Node) → IsInGrid g p → owner_of o p ≡ Some k → In p (reserved k)

-- a node is owned by the net that has it in its tree or for which it is reserved, and else by none
pub record AreOwned (g : Grid) (nets : List NetPoints) (r : Routing) : Type 0 where
  pub grid : r.occupied.grid ≡ g
  pub within : (k : ℕ) (p : Node) → In p (tree_nodes (tree_of r k)) → IsInGrid g p
  pub trees : (k : ℕ) (p : Node) → In p (tree_nodes (tree_of r k)) → owner_of r.occupied p ≡ Some k
  pub reserved : (k : ℕ) (p : Node) → In p (net_reserved nets k) → owner_of r.occupied p ≡ Some k
  pub owned : (k : ℕ) (p : Node) → IsInGrid g p → owner_of r.occupied p ≡ Some k
      → In p (tree_nodes (tree_of r k)) ⊎ In p (net_reserved nets k)

-- and all have trees over their points
pub record IsOrderly (g : Grid) (nets : List NetPoints) (r : Routing) : Type 0 where
  pub owners : AreOwned g nets r
  pub routes : AreRoutes g (net_reserved nets) (net_points nets) (length nets) (tree_of r)

-- net k got a tree of least paths, that may yet lack points, over the nodes that were free for it, and the others kept theirs
pub record Grows (nets : List NetPoints) (k : ℕ) (old new : Routing) : Type 0 where
  pub least : IsLeastTree (IsFree old.occupied k) (net_points nets k) (tree_of new k)
  pub others : (j : ℕ) → j ≢ k → tree_of new j ≡ tree_of old j

-- it lacks the point with this number first, to which no path of such nodes leads
pub record Stops (nets : List NetPoints) (k at : ℕ) (old new : Routing) : Type 0 where
  pub tree : Tree
  pub begun : tree_of new k ≡ Some tree
  pub reached : suc (length tree.paths) ≡ at
  pub point : Node
  pub next : slice_get (net_points nets k) at ≡ Some point
  pub none : (path : List Node) → IsPath (IsFree old.occupied k) (tree_nodes (Some tree)) point path → ⊥

-- these nets have been routed, the last one first, and no other has a tree
pub record HasRouted (g : Grid) (nets : List NetPoints) (earlier : List ℕ) (r : Routing) : Type 0 where
  pub orderly : IsOrderly g nets r
  pub done : AreDone g (net_reserved nets) (net_points nets) (length nets) (tree_of r) earlier
  pub untouched : (k : ℕ) → (In k earlier → ⊥) → tree_of r k ≡ None
