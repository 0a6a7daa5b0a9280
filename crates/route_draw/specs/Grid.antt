-- The figure of a netlist in rows, with the routes of its nets.
use Rattle.std.specs.Prelude.{◌≡◌, ◌++◌, ◌≤◌, ℕ, ◌<◌, pos, ◌+ℤ◌, List, [], map, Some}
use Rattle.vlsi_base.specs.Names.{scalar}
use Rattle.sym_geom.specs.declared.grid.TheConstants.{FIRST_CELL_X}
use Rattle.sym_geom.specs.declared.item.Instance.{Instance}
use Rattle.sym_geom.specs.declared.item.Item.{Item}
use Rattle.sym_geom.specs.declared.item.Item.TheVariants as item
use Rattle.cell_model.specs.Library.{Library}
use Rattle.net_core.specs.Netlist.{Netlist as InMemory}
use Rattle.net_meaning.specs.Netlist.{AbstractNetlist}
use Rattle.net_meaning.specs.Breaches.{Breaches}
use Rattle.net_right.specs.View.{IsSeenAs}
use Rattle.ap_io.specs.declared.figure.Figure.{Figure}
use Rattle.ocp_rows.specs.Placement.{Placement, IsPlaced, supply_ports, placed_ports, supplies_to, block_width, block_box, net_count}
use Rattle.ocp_place.specs.Nets.{net_number}
use Rattle.ocp_place.specs.Placed.{InRow, rows_of, stood_in}
use Rattle.net_drawing.specs.Shown.{KeepsNetlist, ShowsNetlist}
use Rattle.grid_core.specs.Routes.{NetRoutes}
use Rattle.grid_core.specs.Trees.{AreWhole}
use Rattle.maze_drawing.specs.Wiring.{Wiring, IsWiringOf}
use Rattle.maze_drawing.specs.Points.{via_nodes}
use Rattle.maze_drawing.specs.Law.{maze_items, marks}
use Rattle.ocp_grid.specs.Points.{nodes_of, AreRoutesOf}

-- routes over the rows of a placement, on metals up to 6
pub record AreDrawable (l : Library) (n : InMemory) (p : InRow) (routes : NetRoutes) : Type 0 where
  pub metals : ℕ
  pub few : metals ≤ 6
  pub trees : AreRoutesOf l n p metals routes

-- It has the netlist's name, and its lines and its box are those of the placement with the wires and vias of the routes. So terminals of
-- different classes aren't joined, a signal pin in the class of a supply is joined to no other terminal, each pin of a supply is joined
-- to its port and to no signal terminal, and no rule is broken; and where no route lacks a point, terminals outside the classes of vdd
-- and vss are joined exactly where one class has them.
pub record IsDrawnInGrid (l : Library) (n : InMemory) (p : InRow) (routes : NetRoutes) (f : Figure) : Type 0 where
  pub named : f.name ≡ Some (scalar n.name)
  pub wiring : Wiring
  pub drawn : (k : AbstractNetlist) → IsSeenAs n k → (j : ℕ) → j < net_count k
      → IsWiringOf (routes j) (via_nodes k l (net_number k l) (rows_of k p) (stood_in k p) j) (wiring j)
  pub lines : (k : AbstractNetlist) → IsSeenAs n k → f.items ≡ maze_items k l (rows_of k p) (stood_in k p) wiring
  pub box : (k : AbstractNetlist) → IsSeenAs n k → f.bounds ≡ block_box k l (rows_of k p)
  pub keeps : (k : AbstractNetlist) → IsSeenAs n k → KeepsNetlist f.items l k
  pub lawful : Breaches f.items l []
  pub placed : (k : AbstractNetlist) → IsSeenAs n k → IsPlaced f.bounds f.items k l (rows_of k p)
  pub shows : (k : AbstractNetlist) → IsSeenAs n k → AreWhole (nodes_of k l p) (net_count k) routes → ShowsNetlist f.items l k

-- the lines of a placement without a wire of its nets, with these lines for the instances: ports, instances, rails and straps
abbrev pub placed_items : AbstractNetlist → Library → Placement → List Instance → List Item
placed_items n l p instances =
    supply_ports ++ (placed_ports l p ++ (map item.Instance instances ++ supplies_to (pos FIRST_CELL_X +ℤ block_width l p) p.rows))

-- It has the netlist's name, and its lines and its box are those of the placement alone, in the netlist's order of instances. No rule is
-- broken.
pub record IsDrawnPlaced (l : Library) (n : InMemory) (p : InRow) (f : Figure) : Type 0 where
  pub named : f.name ≡ Some (scalar n.name)
  pub lines : (k : AbstractNetlist) → IsSeenAs n k → f.items ≡ placed_items k l (rows_of k p) (stood_in k p)
  pub box : (k : AbstractNetlist) → IsSeenAs n k → f.bounds ≡ block_box k l (rows_of k p)
  pub lawful : Breaches f.items l []
  pub placed : (k : AbstractNetlist) → IsSeenAs n k → IsPlaced f.bounds f.items k l (rows_of k p)

-- a figure with marks at the points of its nets, behind all its lines
pub record IsMarked (l : Library) (n : InMemory) (p : InRow) (plain f : Figure) : Type 0 where
  pub name : f.name ≡ plain.name
  pub box : f.bounds ≡ plain.bounds
  pub lines : (k : AbstractNetlist) → IsSeenAs n k → f.items ≡ plain.items ++ marks k l (net_number k l) (rows_of k p) (stood_in k p)
