-- What is true of trees that come of right moves.
use Rattle.std.specs.Prelude.{◌≡◌, ℕ, ◌<◌, List}
use Rattle.vlsi_base.specs.Member.{In}
use Rattle.grid_core.specs.declared.grid.Node.{Node}
use Rattle.grid_core.specs.Grid.{IsInGrid}
use Rattle.grid_core.specs.Routes.{NetRoutes, tree_nodes}
use Rattle.grid_core.specs.Trees.{AreRoutes}
use Rattle.maze_rips.specs.Run.{Problem, Move, routes_after, AreMoves}

-- what is reserved for a net lies in the grid and is its own, and each point of a net is reserved for it
pub record HasOwnPoints (p : Problem) : Type 0 where
  pub within : (k : ℕ) (q : Node) → k < p.nets → In q (p.reserved k) → IsInGrid p.grid q
  pub alone : (j k : ℕ) (q : Node) → j < p.nets → k < p.nets → In q (p.reserved j) → In q (p.reserved k) → j ≡ k
  pub mine : (k : ℕ) (q : Node) → In q (p.points k) → In q (p.reserved k)

-- trees of different nets have no node in common
abbrev pub AreApart : ℕ → NetRoutes → Type 0
AreApart nets routes =
    (j k : ℕ) (q : Node) → j < nets → k < nets → In q (tree_nodes (routes j)) → In q (tree_nodes (routes k)) → j ≡ k

-- Each net has a tree over its points on nodes that are free for it, and none in common with another.
pub record HaveTreesApart (p : Problem) (routes : NetRoutes) : Type 0 where
  pub trees : AreRoutes p.grid p.reserved p.points p.nets routes
  pub apart : AreApart p.nets routes

-- It is so after any right moves.
abbrev pub MovesKeepTreesApart : Type 0
MovesKeepTreesApart = (p : Problem) (moves : List Move) → HasOwnPoints p → AreMoves p moves → HaveTreesApart p (routes_after moves)
