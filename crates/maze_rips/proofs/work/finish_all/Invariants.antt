use Rattle.std.proofs.Common.{◌≡◌, ℕ, take}
use Rattle.vlsi_base.specs.Member.{In}
use Rattle.grid_core.specs.Trees.{IsWhole}
use Rattle.nero_maze.specs.Routing.{tree_of}
use Rattle.maze_nets.specs.Nets.{net_points}
use Rattle.maze_rips.specs.Run.{last_stuck, IsServed}
use Rattle.maze_rips.specs.Progress.{problem_of, IsUnderWay}
use Rattle.maze_rips.proofs.work.finish_all.Given as goal

abbrev pub invariant-loop-net : goal.invariant-loop-net
invariant-loop-net l = record {
  under_way : IsUnderWay l.task l.work;
  rips : l.work.rips.items ≡ l.fn.work.rips.items;
  served : IsServed (problem_of l.task) (tree_of l.work.router) (last_stuck l.work.rips.items);
  whole : (j : ℕ) → In j (take l.net-index l.task.order.now) → IsWhole (net_points l.task.nets.now j) (tree_of l.work.router j);
}
