-- The nodes at which the terminals of a placed netlist stand, net by net, and those that are reserved for nets.
use Rattle.std.specs.Prelude.{ℕ, ◌+◌, ◌/◌, pos, ◌-ℤ◌, Bool, true, false, List, [], ◌∷◌, ◌++◌, Option, None, Some, length, nat_lt, if◌then◌else◌}
use Rattle.std.specs.List.{flat_map}
use Rattle.sym_geom.specs.declared.grid.TheConstants.{PITCH, FIRST_CELL_X}
use Rattle.vlsi_base.specs.declared.name.Name.{Name}
use Rattle.machine_core.specs.Machine.{names_of}
use Rattle.sym_geom.specs.declared.item.Instance.{Instance}
use Rattle.cell_model.specs.Access.{Point}
use Rattle.cell_model.specs.Cell.{Cell, pin_ports}
use Rattle.cell_model.specs.Library.{Library, cell_of}
use Rattle.net_meaning.specs.Netlist.{AbstractNetlist, pin_of}
use Rattle.ocp_rows.specs.Placement.{Placement, natural, block_columns, port_column, port_row}
use Rattle.ocp_rows.specs.Length.{instance_point}
use Rattle.net_drawing.specs.Drawing.{Numbering, on_net}
use Rattle.grid_core.specs.declared.grid.Grid.{Grid}
use Rattle.grid_core.specs.declared.grid.Node.{Node}
use Rattle.grid_core.specs.Grid.{above}

-- The grid over a block: columns from where cells begin to the end of the widest row, and rows from the block's foot to that of the
-- ports.
abbrev pub grid_over : ℕ → Library → Placement → Grid
grid_over metals l p = record { metals = metals; columns = block_columns l p + 1; rows = port_row (length p.rows) + 1 }

-- the node at a terminal's point
abbrev pub node_at : Option Point → List Node
node_at None = []
node_at (Some q) = record { metal = 2; column = natural (q.0 -ℤ pos FIRST_CELL_X) / PITCH; row = natural q.1 / PITCH } ∷ []

abbrev pub signal_names : Option Cell → List Name
signal_names None = []
signal_names (Some c) = names_of (pin_ports c)

-- the nodes of the pins on net k: of one pin, of an instance, of all in the order of instances and of names
abbrev pub pin_nodes : AbstractNetlist → Library → Numbering → ℕ → Instance → Name → List Node
pin_nodes n l net k i pin = if on_net n net k (pin_of i.name pin) then node_at (instance_point (cell_of l i.model) i pin) else []

abbrev pub instance_nodes : AbstractNetlist → Library → Numbering → ℕ → Instance → List Node
instance_nodes n l net k i = flat_map (pin_nodes n l net k i) (signal_names (cell_of l i.model))

abbrev pub terminal_nodes : AbstractNetlist → Library → Numbering → List Instance → ℕ → List Node
terminal_nodes n l net instances k = flat_map (instance_nodes n l net k) instances

-- the node of port k, which is on net k
abbrev pub port_node : Library → Placement → ℕ → Node
port_node l p k = record { metal = 3; column = port_column (length p.ports) (block_columns l p) k; row = port_row (length p.rows) }

abbrev pub port_nodes : Library → Placement → ℕ → List Node
port_nodes l p k = if nat_lt k (length p.ports) then port_node l p k ∷ [] else []

-- the points of net k: its port first
abbrev pub net_nodes : AbstractNetlist → Library → Numbering → Placement → List Instance → ℕ → List Node
net_nodes n l net p instances k = port_nodes l p k ++ terminal_nodes n l net instances k

-- what is reserved for net k: its port's node, and at each of its terminals the nodes on metals 2 and 3
abbrev pub reserved : AbstractNetlist → Library → Numbering → Placement → List Instance → ℕ → List Node
reserved n l net p instances k = port_nodes l p k ++ flat_map (λ q. q ∷ above q ∷ []) (terminal_nodes n l net instances k)

abbrev pub has_two : List Node → Bool
has_two [] = false
has_two (q ∷ []) = false
has_two (q ∷ (r ∷ rest)) = true

-- the terminals of net k that have vias: those of a net with two or more points
abbrev pub via_nodes : AbstractNetlist → Library → Numbering → Placement → List Instance → ℕ → List Node
via_nodes n l net p instances k = if has_two (net_nodes n l net p instances k) then terminal_nodes n l net instances k else []
