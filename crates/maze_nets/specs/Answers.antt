-- What the routing of all nets answers.
use Rattle.std.specs.Prelude.{◌≡◌, ℕ, List, ◌∷◌, ◌++◌, Some, length, reverse, slice_get}
use Prim.Native.Nat.{suc}
use Rattle.grid_core.specs.declared.grid.Grid.{Grid}
use Rattle.grid_core.specs.declared.grid.Node.{Node}
use Rattle.grid_core.specs.Routes.{NetRoutes}
use Rattle.grid_core.specs.Shown.{tree_in}
use Rattle.grid_core.specs.Trees.{AreRoutes, AreDone, IsNetOrder, IsStuckAt}
use Rattle.maze_nets.specs.declared.points.NetPoints.{NetPoints}
use Rattle.maze_nets.specs.declared.error.RouteError.{RouteError}
use Rattle.maze_nets.specs.declared.error.RouteError.TheVariants as error
use Rattle.maze_nets.specs.Nets.{net_points, net_reserved, half_perimeter}

-- all nets were taken by half perimeter, then by number, and each got a whole tree of least paths beside those before it
pub record AreOrdered (g : Grid) (nets : List NetPoints) (routes : NetRoutes) : Type 0 where
  pub order : List ℕ
  pub sorted : IsNetOrder (half_perimeter nets) (length nets) order
  pub done : AreDone g (net_reserved nets) (net_points nets) (length nets) routes (reverse order)

-- they were taken in this order up to this net, which got stuck at its point with this number: its tree has just the points before it
pub record AreStuck (g : Grid) (nets : List NetPoints) (routes : NetRoutes) (net at : ℕ) : Type 0 where
  pub earlier : List ℕ
  pub later : List ℕ
  pub sorted : IsNetOrder (half_perimeter nets) (length nets) (reverse earlier ++ net ∷ later)
  pub point : Node
  pub numbered : slice_get (net_points nets net) at ≡ Some point
  pub stuck : IsStuckAt g (net_reserved nets) (net_points nets) (length nets) routes earlier later net point
  pub number : suc (length stuck.tree.paths) ≡ at

-- a refusal for want of a path shows where it is wanting
abbrev pub IsRefusal : Grid → List NetPoints → RouteError → Type 0
IsRefusal g nets error.Memory = Unit {0}
IsRefusal g nets (error.NoPath net point so_far) =
    (length so_far ≡ length nets) × AreRoutes g (net_reserved nets) (net_points nets) (length nets) (tree_in so_far)
    × AreStuck g nets (tree_in so_far) net point
