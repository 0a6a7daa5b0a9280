-- What the routing of all nets with rips answers.
use Rattle.std.specs.Prelude.{◌≡◌, ℕ, ◌≤◌, List, length}
use Rattle.grid_core.specs.declared.grid.Grid.{Grid}
use Rattle.grid_core.specs.Routes.{NetRoutes}
use Rattle.grid_core.specs.Shown.{tree_in}
use Rattle.grid_core.specs.Trees.{AreRoutes, AreWhole, IsNetOrder}
use Rattle.maze_nets.specs.declared.points.NetPoints.{NetPoints}
use Rattle.maze_nets.specs.Nets.{net_points, net_reserved, half_perimeter}
use Rattle.maze_rips.specs.declared.error.RipError.{RipError}
use Rattle.maze_rips.specs.declared.error.RipError.TheVariants as error
use Rattle.maze_rips.specs.declared.rip.PointRip.{PointRip}
use Rattle.maze_rips.specs.Run.{Problem, IsRipRun, IsSpent}

-- these nets in an order
abbrev pub problem : Grid → List NetPoints → List ℕ → Problem
problem g nets order = record { grid = g; reserved = net_reserved nets; points = net_points nets; nets = length nets; order = order }

-- the order is by half perimeter, then by number, and these rips and trees come of its moves
pub record HasRun (g : Grid) (nets : List NetPoints) (rips : List PointRip) (routes : NetRoutes) : Type 0 where
  pub order : List ℕ
  pub sorted : IsNetOrder (half_perimeter nets) (length nets) order
  pub run : IsRipRun (problem g nets order) rips routes

-- Each net has a whole tree on nodes that are free for it, no more rips were made than are allowed, and all come of such moves.
pub record AreRipped (g : Grid) (nets : List NetPoints) (allowed : ℕ) (rips : List PointRip) (routes : NetRoutes) : Type 0 where
  pub trees : AreRoutes g (net_reserved nets) (net_points nets) (length nets) routes
  pub whole : AreWhole (net_points nets) (length nets) routes
  pub few : length rips ≤ allowed
  pub run : HasRun g nets rips routes

-- They came to a net that is stuck at its point with this number.
pub record AreStuck (g : Grid) (nets : List NetPoints) (allowed : ℕ) (rips : List PointRip) (routes : NetRoutes) (net at : ℕ) : Type 0 where
  pub trees : AreRoutes g (net_reserved nets) (net_points nets) (length nets) routes
  pub few : length rips ≤ allowed
  pub run : HasRun g nets rips routes
  pub spent : IsSpent (problem g nets run.order) allowed rips routes net at

-- a refusal for want of a path shows where it is wanting, and which rips were made
abbrev pub IsRefusal : Grid → List NetPoints → ℕ → RipError → Type 0
IsRefusal g nets allowed error.Memory = Unit {0}
IsRefusal g nets allowed (error.NoPath net point so_far rips) =
    (length so_far ≡ length nets) × AreStuck g nets allowed rips.items (tree_in so_far) net point
