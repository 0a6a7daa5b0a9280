-- The lower nodes of the vias at terminals.
use Rattle.std.specs.Prelude.{◌≡◌, List}
use Rattle.vlsi_base.specs.Member.{In}
use Rattle.grid_core.specs.declared.grid.Node.{Node}
use Rattle.grid_core.specs.Grid.{above}

-- the node on metal 1 below one of these terminals, which is among these nodes
pub record IsFoot (nodes terminals : List Node) (v : Node) : Type 0 where
  pub low : v.metal ≡ 1
  pub terminal : In (above v) terminals
  pub node : In (above v) nodes
