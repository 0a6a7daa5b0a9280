-- The line of a wire, by its ends.
use Rattle.std.proofs.Common.{◌≡◌, ℕ, ◌+◌, Bool, true, false, Option, refl, if◌then◌else◌}
use Rattle.std.specs.Prelude.{pos}
use Rattle.sym_geom.specs.declared.grid.TheConstants.{WIRE_WIDTH}
use Rattle.vlsi_base.specs.declared.name.Name.{Name}
use Rattle.sym_geom.specs.declared.item.Direction.TheVariants.{Up, Right}
use Rattle.sym_geom.specs.declared.layer.Layer.{Layer}
use Rattle.sym_geom.specs.declared.layer.Layer.TheVariants.{Alu}
use Rattle.grid_core.specs.Grid.{is_level, ahead}
use Rattle.ocp_rows.specs.Placement.{wire, level_wire, upright_wire, column_x, row_y}
use Rattle.maze_drawing.specs.Wiring.{Wire, level_of, wire_item}

by_way : (v : Bool) (layer : Layer) (c r k : ℕ) (name : Option Name)
    → wire (if v then Right else Up) layer (pos WIRE_WIDTH) (column_x c) (row_y r) (column_x (if v then c + k else c)) (row_y (if v then r else r + k)) name
    ≡ (if v then level_wire layer (pos WIRE_WIDTH) (column_x c) (column_x (if v then c + k else c)) (row_y r) name
    else upright_wire layer (pos WIRE_WIDTH) (column_x c) (row_y r) (row_y (if v then r else r + k)) name)
by_way true layer c r k name = refl
by_way false layer c r k name = refl

pub wire_is : (name : Option Name) (w : Wire)
    → wire (if is_level w.from.metal then Right else Up) (Alu (level_of w.from.metal)) (pos WIRE_WIDTH) (column_x w.from.column) (row_y w.from.row)
    (column_x (ahead w.from w.steps).column) (row_y (ahead w.from w.steps).row) name
    ≡ wire_item name w
wire_is name w = by_way (is_level w.from.metal) (Alu (level_of w.from.metal)) w.from.column w.from.row w.steps name
