-- The grid over the rows of a placement in memory, and the points of its nets there.
use Rattle.std.specs.Prelude.{◌≡◌, ℕ, ◌<◌, List, Some, length, slice_get}
use Rattle.cell_model.specs.Library.{Library}
use Rattle.net_core.specs.Netlist.{Netlist as InMemory}
use Rattle.net_meaning.specs.Netlist.{AbstractNetlist}
use Rattle.net_right.specs.View.{IsSeenAs}
use Rattle.ocp_rows.specs.Placement.{net_count}
use Rattle.ocp_place.specs.Nets.{net_number}
use Rattle.ocp_place.specs.Placed.{InRow, rows_of, stood_in}
use Rattle.grid_core.specs.declared.grid.Grid.{Grid}
use Rattle.grid_core.specs.declared.grid.Node.{Node}
use Rattle.grid_core.specs.Numbers.{nodes}
use Rattle.grid_core.specs.Routes.{NetRoutes}
use Rattle.grid_core.specs.Trees.{AreRoutes}
use Rattle.maze_drawing.specs.Points.{grid_over, port_nodes, terminal_nodes, net_nodes, reserved}
use Rattle.maze_nets.specs.declared.points.NetPoints.{NetPoints}
use Rattle.maze_nets.specs.Nets.{port_node}

-- ---- of a netlist of layouts

-- the grid over its rows, up to a metal
abbrev pub grid_of : ℕ → AbstractNetlist → Library → InRow → Grid
grid_of metals n l p = grid_over metals l (rows_of n p)

-- the points of net k, and what is reserved for it
abbrev pub nodes_of : AbstractNetlist → Library → InRow → ℕ → List Node
nodes_of n l p k = net_nodes n l (net_number n l) (rows_of n p) (stood_in n p) k

abbrev pub reserved_of : AbstractNetlist → Library → InRow → ℕ → List Node
reserved_of n l p k = reserved n l (net_number n l) (rows_of n p) (stood_in n p) k

-- these are the points of net k: its port's, if it has one, and those of its terminals
pub record IsNetOf (n : AbstractNetlist) (l : Library) (p : InRow) (k : ℕ) (points : NetPoints) : Type 0 where
  pub port : port_node points.port ≡ port_nodes l (rows_of n p) k
  pub terminals : points.terminals.items ≡ terminal_nodes n l (net_number n l) (stood_in n p) k

-- and these those of all nets, by their numbers
pub record ArePointsOf (n : AbstractNetlist) (l : Library) (p : InRow) (nets : List NetPoints) : Type 0 where
  pub many : length nets ≡ net_count n
  pub each : (k : ℕ) (points : NetPoints) → slice_get nets k ≡ Some points → IsNetOf n l p k points

-- ---- of a netlist in memory: of each netlist of layouts that it is seen as

abbrev pub ArePointsIn : Library → InMemory → InRow → List NetPoints → Type 0
ArePointsIn l n p nets = (k : AbstractNetlist) → IsSeenAs n k → ArePointsOf k l p nets

-- The nets have trees over their points, each on nodes that are free for it.
abbrev pub AreRoutesOf : Library → InMemory → InRow → ℕ → NetRoutes → Type 0
AreRoutesOf l n p metals routes =
    (k : AbstractNetlist) → IsSeenAs n k → AreRoutes (grid_of metals k l p) (reserved_of k l p) (nodes_of k l p) (net_count k) routes

-- so few nodes that each has a number of 32 bits, and one is left
abbrev pub HasFewNodes : Library → InMemory → InRow → ℕ → Type 0
HasFewNodes l n p metals = (k : AbstractNetlist) → IsSeenAs n k → nodes (grid_of metals k l p) < 4294967295
