-- The points of terminals, as a placement in memory has them, on the grid.
use Rattle.std.specs.Prelude.{ℕ, ◌/◌, ◌<◌, pos, ◌-ℤ◌, List, [], take, nat_lt, if◌then◌else◌}
use Rattle.sym_geom.specs.declared.grid.TheConstants.{PITCH, FIRST_CELL_X}
use Rattle.cell_model.specs.Access.{Point}
use Rattle.ocp_rows.specs.Placement.{natural}
use Rattle.grid_core.specs.declared.grid.Node.{Node}

-- the node of a point on a metal
abbrev pub point_node : ℕ → Point → Node
point_node metal q = record { metal = metal; column = natural (q.0 -ℤ pos FIRST_CELL_X) / PITCH; row = natural q.1 / PITCH }

-- its column and its row are numbers of 32 bits
pub record IsOnGrid (q : Point) : Type 0 where
  pub column : natural (q.0 -ℤ pos FIRST_CELL_X) / PITCH < 4294967296
  pub row : natural q.1 / PITCH < 4294967296

-- the point of the port of net k, before those of its pins, where it is one of so many nets with a port
abbrev pub net_port : ℕ → ℕ → List Point → List Point
net_port many k points = if nat_lt k many then take 1 points else []
