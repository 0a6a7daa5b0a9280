-- What is true between two moves.
use Rattle.std.specs.Prelude.{◌≡◌, ◌≢◌, ℕ, ◌<◌, None, length}
use Rattle.grid_core.specs.Trees.{IsNetOrder}
use Rattle.nero_maze.specs.Routing.{tree_of, NoneFrom}
use Rattle.maze_nets.specs.Nets.{net_reserved, half_perimeter, AreRoutable}
use Rattle.maze_nets.specs.Progress.{AreReserved, IsOrderly}
use Rattle.maze_rips.specs.declared.work.Task.{Task}
use Rattle.maze_rips.specs.declared.work.Work.{Work}
use Rattle.maze_rips.specs.Run.{Problem, HasTurn, IsRipRun}
use Rattle.maze_rips.specs.Answers.{problem}
use Rattle.maze_rips.specs.Paths.{laid, paths_in}

abbrev pub problem_of : Task → Problem
problem_of t = problem t.grid t.nets.now t.order.now

-- the nets can be routed on the grid, and their order is right
pub record IsTask (t : Task) : Type 0 where
  pub routable : AreRoutable t.grid t.nets.now
  pub few : length t.nets.now < 4294967295
  pub sorted : IsNetOrder (half_perimeter t.nets.now) (length t.nets.now) t.order.now

-- the trees and the rips come of moves, and the paths of each tree are kept
pub record IsUnderWay (t : Task) (w : Work) : Type 0 where
  pub orderly : IsOrderly t.grid t.nets.now w.router
  pub reserved : AreReserved t.grid (net_reserved t.nets.now) w.router.reserved
  pub counted : length w.paths ≡ length t.nets.now
  pub kept : (k : ℕ) → k < length t.nets.now → paths_in w.paths k ≡ laid (tree_of w.router k)
  pub only : NoneFrom (length t.nets.now) w.router
  pub run : IsRipRun (problem_of t) w.rips.items (tree_of w.router)

-- and it is this net's turn, if it lacks a point
pub record IsBeginning (t : Task) (net : ℕ) (w : Work) : Type 0 where
  pub under_way : IsUnderWay t w
  pub turn : HasTurn (problem_of t) w.rips.items (tree_of w.router) net

-- its tree has begun, and nothing else has changed
pub record IsFinishing (t : Task) (net : ℕ) (old new : Work) : Type 0 where
  pub now : IsBeginning t net new
  pub rips : new.rips.items ≡ old.rips.items
  pub others : (j : ℕ) → j ≢ net → tree_of new.router j ≡ tree_of old.router j
  pub begun : tree_of new.router net ≢ None
