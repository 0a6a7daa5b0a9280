-- The drawing of a netlist by private tracks is right.
use Rattle.std.specs.Prelude.{true, ◌+◌, pos, ◌+ℤ◌, List, [], ◌∷◌}
use Rattle.vlsi_base.specs.declared.name.Name.{Name}
use Rattle.sym_geom.specs.declared.rect.Rect.{Rect}
use Rattle.sym_geom.specs.declared.item.Item.{Item}
use Rattle.sym_geom.specs.declared.grid.TheConstants.{PITCH, FIRST_CELL_X}
use Rattle.cell_model.specs.Library.{Library}
use Rattle.net_meaning.specs.Netlist.{AbstractNetlist, Extracts}
use Rattle.net_meaning.specs.Breaches.{Breaches}
use Rattle.ocp_rows.specs.Placement.{Placement, IsPlaced, rows_width, track_y, net_count}
use Rattle.net_drawing.specs.Shown.{ShowsNetlist, HasNoTies}
use Rattle.net_drawing.specs.Drawing.{Numbering, track_items, IsDrawable}

-- one row in the order of the netlist, for private tracks
abbrev pub one_row : AbstractNetlist → List Name → Placement
one_row n ports = record { rows = n.instances ∷ []; ports = ports; tracks = true }

-- the box of the drawing
abbrev pub track_box : AbstractNetlist → Library → Rect
track_box n l = record { x1 = pos 0; y1 = pos 0; x2 = pos (FIRST_CELL_X + PITCH) +ℤ rows_width l (n.instances ∷ []); y2 = track_y (net_count n) }

-- The drawing shows the netlist, breaks no rule, and is that of the placement in one row.
abbrev pub DrawingsAreRight : Type 0
DrawingsAreRight =
    (n : AbstractNetlist) (l : Library) (net : Numbering) (ports : List Name)
    → IsDrawable n l net ports
    → ShowsNetlist (track_items n l net ports) l n × Breaches (track_items n l net ports) l []
    × IsPlaced (track_box n l) (track_items n l net ports) n l (one_row n ports)

-- Where no signal pin is tied to a supply, what shows the netlist gives it.
abbrev pub UntiedIsExtracted : Type 0
UntiedIsExtracted = (items : List Item) (l : Library) (n : AbstractNetlist) → ShowsNetlist items l n → HasNoTies n l → Extracts items l n
