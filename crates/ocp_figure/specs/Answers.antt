-- What isn't read as a placement.
use Rattle.cell_model.specs.Library.{Library}
use Rattle.net_core.specs.Netlist.{Netlist as InMemory}
use Rattle.ap_io.specs.declared.figure.Figure.{Figure}
use Rattle.ocp_place.specs.Placed.{InRow, IsRowPlacementOf}
use Rattle.route_draw.specs.Grid.{IsDrawnPlaced}

-- no placement of the netlist in rows has the figure as its drawing without routes
abbrev pub HasNoPlacement : Library → InMemory → Figure → Type 0
HasNoPlacement l n f = (p : InRow) → IsRowPlacementOf l n p → IsDrawnPlaced l n p f → ⊥
