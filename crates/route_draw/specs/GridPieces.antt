-- The lines of a figure in rows, piece by piece, from what is kept in memory.
use Rattle.std.specs.Prelude.{◌≡◌, ℕ, ◌+◌, ◌*◌, ◌/◌, ℤ, pos, List, [], ◌∷◌, ◌++◌, map, length, slice_get, Option, None, Some, if◌then◌else◌}
use Prim.Native.Nat.{zero, suc}
use Rattle.vlsi_base.specs.declared.name.Name.{Name}
use Rattle.vlsi_base.specs.Names.{vdd, vss}
use Rattle.sym_geom.specs.declared.grid.TheConstants.{PITCH, ROW_HEIGHT, VSS_RAIL_Y, VDD_RAIL_Y, VSS_STRAP_X, VDD_STRAP_X, FIRST_CELL_X}
use Rattle.sym_geom.specs.declared.item.Item.{Item}
use Rattle.sym_geom.specs.declared.item.Item.TheVariants as item
use Rattle.net_core.specs.Places.{Stands}
use Rattle.net_core.specs.Netlist.{Instance, Netlist as InMemory}
use Rattle.net_right.specs.View.{member_of}
use Rattle.ocp_rows.specs.Placement.{rail, strap, supply_ports, grid_ports, port_column}
use Rattle.ocp_place.specs.Placed.{InRow}
use Rattle.ocp_place.specs.Stood.{is_turned, stood_all}
use Rattle.grid_core.specs.declared.grid.Node.{Node}
use Rattle.grid_core.specs.Routes.{NetRoutes}
use Rattle.maze_drawing.specs.Wiring.{NetWiring, Wiring, IsWiringOf, net_items}
use Rattle.maze_drawing.specs.Points.{has_two}
use Rattle.maze_drawing.specs.Law.{mark}
use Rattle.maze_nets.specs.declared.points.NetPoints.{NetPoints}
use Rattle.maze_nets.specs.Nets.{points_of}
use Rattle.maze_wires.specs.declared.wires.NetWires.{NetWires}
use Rattle.maze_wires.specs.Shown.{shown_net}
use Rattle.route_draw.specs.Pieces.{signal_names}

-- ---- instances

-- instances in their order, where each has its x and its row
abbrev pub stood_lines : List Instance → List ℕ → List ℕ → List Item
stood_lines is xs rows = map item.Instance (stood_all (map member_of is) xs rows)

-- ---- supplies

-- the middle of a rail in row r: so high above its foot, or so high where the row is upside down
abbrev pub rail_y : ℕ → ℕ → ℕ → ℕ
rail_y upright turned r = ROW_HEIGHT * r + (if is_turned r then turned else upright)

-- those of one supply in so many rows, from row r up
abbrev pub rail_ys_from : ℕ → ℕ → ℕ → ℕ → List ℕ
rail_ys_from upright turned r zero = []
rail_ys_from upright turned r (suc many) = rail_y upright turned r ∷ rail_ys_from upright turned (suc r) many

abbrev pub rail_ys : ℕ → ℕ → ℕ → List ℕ
rail_ys upright turned rows = rail_ys_from upright turned 0 rows

-- the rails with these middles, those of vss and of vdd by turns
abbrev pub row_rails : ℕ → List ℕ → List ℕ → List Item
row_rails end [] highs = []
row_rails end (low ∷ lows) [] = []
row_rails end (low ∷ lows) (high ∷ highs) = rail (pos end) (pos low) vss ∷ rail (pos end) (pos high) vdd ∷ row_rails end lows highs

-- the strap of vss, and that of vdd
abbrev pub both_straps : List ℤ → List ℤ → List Item
both_straps lows highs = strap (pos VSS_STRAP_X) vss lows ++ strap (pos VDD_STRAP_X) vdd highs

-- the supplies of so many rows that are so wide
abbrev pub supplies_over : ℕ → ℕ → List Item
supplies_over width rows =
    row_rails (FIRST_CELL_X + width) (rail_ys VSS_RAIL_Y VDD_RAIL_Y rows) (rail_ys VDD_RAIL_Y VSS_RAIL_Y rows)
    ++ both_straps (map pos (rail_ys VSS_RAIL_Y VDD_RAIL_Y rows)) (map pos (rail_ys VDD_RAIL_Y VSS_RAIL_Y rows))

-- ---- nets

-- the terminals of a net that have vias
abbrev pub via_points : NetPoints → List Node
via_points n = if has_two (points_of n) then n.terminals.items else []

-- the wiring of a net; none where there is no such net
abbrev pub wiring_of : Option NetWires → NetWiring
wiring_of None = record { wires = []; vias = [] }
wiring_of (Some net) = shown_net net

-- the wiring that is kept in memory, by the numbers of nets
abbrev pub wiring_in : List NetWires → Wiring
wiring_in nets j = wiring_of (slice_get nets j)

-- it is that of these routes, for nets with these points
pub record AreWired (routes : NetRoutes) (points : List NetPoints) (nets : List NetWires) : Type 0 where
  pub many : length nets ≡ length points
  pub each : (j : ℕ) (net : NetPoints) → Stands points j net → IsWiringOf (routes j) (via_points net) (wiring_in nets j)

-- the lines of some things by their numbers, the first of which is k
abbrev pub numbered_lines : {A : Type 0} → (ℕ → A → List Item) → ℕ → List A → List Item
numbered_lines f k [] = []
numbered_lines f k (x ∷ rest) = f k x ++ numbered_lines f (suc k) rest

-- the wires and vias of a net, by the name of its port
abbrev pub wires_of : List Name → ℕ → NetWires → List Item
wires_of names k net = net_items (slice_get names k) (shown_net net)

-- the marks of a net's points
abbrev pub marks_of : ℕ → NetPoints → List Item
marks_of k net = map (mark k) (points_of net)

-- those of these nets, the first of which is net k
abbrev pub wired_lines : ℕ → List Name → List NetWires → List Item
wired_lines k names nets = numbered_lines (wires_of names) k nets

abbrev pub mark_lines : ℕ → List NetPoints → List Item
mark_lines k nets = numbered_lines marks_of k nets

-- ---- all lines of the figure

-- those without the nets' own, where the ports that are no supplies have these names
abbrev pub bare_lines : List Name → InMemory → InRow → List Item
bare_lines names n p =
    supply_ports
    ++ (grid_ports (port_column (length names) (p.width / PITCH)) (length p.rows) 0 names
    ++ (stood_lines n.instances p.starts p.row_numbers ++ supplies_over p.width (length p.rows)))

abbrev pub block_lines : InMemory → InRow → List NetWires → List Item
block_lines n p nets =
    supply_ports
    ++ (grid_ports (port_column (length (signal_names n.ports)) (p.width / PITCH)) (length p.rows) 0 (signal_names n.ports)
    ++ (stood_lines n.instances p.starts p.row_numbers ++ (supplies_over p.width (length p.rows) ++ wired_lines 0 (signal_names n.ports) nets)))
