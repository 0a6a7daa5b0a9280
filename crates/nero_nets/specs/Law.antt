-- What is true of routes over the rows of a placement.
use Rattle.std.specs.Prelude.{ℕ, ◌≤◌, List, length}
use Rattle.sym_geom.specs.declared.item.Instance.{Instance}
use Rattle.cell_model.specs.Library.{Library}
use Rattle.net_core.specs.Netlist.{Netlist as InMemory}
use Rattle.net_meaning.specs.Netlist.{AbstractNetlist}
use Rattle.net_drawing.specs.Drawing.{Numbering}
use Rattle.ocp_rows.specs.Placement.{Placement, net_count}
use Rattle.ocp_place.specs.Placed.{InRow, IsRowPlacementOf, IsEvenPlacement}
use Rattle.maze_drawing.specs.Wiring.{Wiring}
use Rattle.maze_drawing.specs.Law.{part_items}
use Rattle.ocp_grid.specs.Law.{IsInRows}
use Rattle.ocp_grid.specs.Points.{HasFewNodes}
use Rattle.nero_nets.specs.Marks.{TellsNets}

-- The grid over an even placement has few nodes, where the netlist has no more instances and ports than a source within the limits gives.
abbrev pub GridsAreSmall : Type 0
GridsAreSmall =
    (l : Library) (n : InMemory) (p : InRow) (metals : ℕ) → IsRowPlacementOf l n p → IsEvenPlacement l n p → length n.instances ≤ 65536
    → length n.ports ≤ 8192 → metals ≤ 6 → HasFewNodes l n p metals

-- The marks of a layout whose routes lack points tell its nets, whatever is drawn of them: of as many nets as 64 bits can number.
abbrev pub MarksTellNets : Type 0
MarksTellNets =
    (n : AbstractNetlist) (l : Library) (net : Numbering) (p : Placement) (instances : List Instance) (w : Wiring) → IsInRows n l net p instances
    → net_count n ≤ 18446744073709551616 → TellsNets (part_items n l net p instances w) n l p
