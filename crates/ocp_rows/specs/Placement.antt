-- Placed instances, supplies, ports and box of a block whose nets have private tracks, or routes over a grid.
use Rattle.std.specs.Prelude.{◌≡◌, ◌≢◌, ◌↔◌, ℕ, ◌+◌, ◌-◌, ◌*◌, ◌/◌, length, ℤ, pos, negsuc, ◌+ℤ◌, Bool, false, not, List, [], ◌∷◌, ◌++◌, map, Option, None, Some, AllPairs, IsTrue, if◌then◌else◌}
use Rattle.sym_geom.specs.declared.grid.TheConstants.{PITCH, ROW_HEIGHT, WIRE_WIDTH, RAIL_WIDTH, VSS_RAIL_Y, VDD_RAIL_Y, VSS_STRAP_X, VDD_STRAP_X, FIRST_CELL_X, FIRST_TRACK_Y}
use Prim.Native.Nat.{suc}
use Rattle.std.specs.Int.{int_max}
use Rattle.std.specs.List.{flat_map}
use Rattle.std.specs.List.Sorted.{IsPermutation}
use Rattle.vlsi_base.specs.declared.name.Name.{Name}
use Rattle.sym_geom.specs.declared.rect.Rect.{Rect}
use Rattle.sym_geom.specs.declared.rect.Transform.{Transform}
use Rattle.sym_geom.specs.declared.rect.Transform.TheVariants.{NoSym, SymY}
use Rattle.sym_geom.specs.declared.layer.Layer.{Layer}
use Rattle.sym_geom.specs.declared.layer.Layer.TheVariants.{Alu}
use Rattle.sym_geom.specs.declared.layer.Level.TheVariants.{One, Two, Three}
use Rattle.sym_geom.specs.declared.item.Direction.{Direction}
use Rattle.sym_geom.specs.declared.item.Direction.TheVariants.{Up, Right}
use Rattle.sym_geom.specs.declared.item.Side.TheVariants.{West, North}
use Rattle.sym_geom.specs.declared.item.Contact.{Contact}
use Rattle.sym_geom.specs.declared.item.Contact.TheVariants.{Via1, Via2}
use Rattle.sym_geom.specs.declared.item.Instance.{Instance}
use Rattle.sym_geom.specs.declared.item.Item.{Item}
use Rattle.sym_geom.specs.declared.item.Item.TheVariants as item
use Rattle.vlsi_base.specs.Member.{In}
use Rattle.vlsi_base.specs.Names.{comes_before, vdd, vss}
use Rattle.sym_shapes.specs.Shape.{wire_name}
use Rattle.cell_model.specs.Cell.{Cell, cell_width}
use Rattle.cell_model.specs.Library.{Library, cell_of}
use Rattle.net_meaning.specs.Netlist.{Member, AbstractNetlist}

-- a placement: rows of instances, from the left to the right and from the lowest row up, the port bits without the supplies
-- in the order of names, and whether its nets have private tracks; else they have routes over a grid
pub record Placement : Type 0 where
  pub rows : List (List Member)
  pub ports : List Name
  pub tracks : Bool

-- ---- lines that a block has

abbrev pub wire : Direction → Layer → ℤ → ℤ → ℤ → ℤ → ℤ → Option Name → Item
wire direction layer width x1 y1 x2 y2 name =
    item.Segment (record { x1 = x1; y1 = y1; x2 = x2; y2 = y2; width = width; name = name; direction = direction; layer = layer })

-- a wire from the left to the right, and one upwards
abbrev pub level_wire : Layer → ℤ → ℤ → ℤ → ℤ → Option Name → Item
level_wire layer width x1 x2 y name = wire Right layer width x1 y x2 y name

abbrev pub upright_wire : Layer → ℤ → ℤ → ℤ → ℤ → Option Name → Item
upright_wire layer width x y1 y2 name = wire Up layer width x y1 x y2 name

abbrev pub contact_at : Contact → ℤ → ℤ → Option Name → Item
contact_at contact x y name = item.Via (record { x = x; y = y; contact = contact; name = name })

-- a port at the west side, and one at the north side
abbrev pub west_port : Layer → ℤ → ℤ → ℤ → Name → Item
west_port layer width x y name =
    item.Connector (record { x = x; y = y; width = width; name = Some name; index = pos 0; side = West; layer = layer })

abbrev pub north_port : Layer → ℤ → ℤ → ℤ → Name → Item
north_port layer width x y name =
    item.Connector (record { x = x; y = y; width = width; name = Some name; index = pos 0; side = North; layer = layer })

-- ---- instances

abbrev pub width_of : Option Cell → ℤ
width_of None = pos 0
width_of (Some c) = cell_width c

abbrev pub model_width : Library → List ℕ → ℤ
model_width l model = width_of (cell_of l model)

-- the instances of a row abut, from x on
abbrev pub standing : Library → Transform → ℤ → ℤ → List Member → List Instance
standing l turn y x [] = []
standing l turn y x (one ∷ rest) =
    record { x = x; y = y; model = one.model; name = one.name; transform = turn } ∷ standing l turn y (x +ℤ model_width l one.model) rest

abbrev pub turn_of : Bool → Transform
turn_of flipped = if flipped then SymY else NoSym

-- Rows are of one height and begin at the first cell's x. The lowest stands at y 0, and every other row is upside down.
abbrev pub standing_rows : Library → Bool → ℤ → List (List Member) → List Instance
standing_rows l flipped y [] = []
standing_rows l flipped y (row ∷ rows) =
    standing l (turn_of flipped) y (pos FIRST_CELL_X) row ++ standing_rows l (not flipped) (y +ℤ pos ROW_HEIGHT) rows

abbrev pub row_width : Library → List Member → ℤ
row_width l [] = pos 0
row_width l (one ∷ rest) = model_width l one.model +ℤ row_width l rest

-- the width of the widest row
abbrev pub rows_width : Library → List (List Member) → ℤ
rows_width l [] = pos 0
rows_width l (row ∷ rows) = int_max (row_width l row) (rows_width l rows)

-- ---- supplies

-- the middles of the rails of vss and of vdd, above the foot y of a row; in a row upside down they are exchanged
abbrev pub vss_centre : Bool → ℤ → ℤ
vss_centre flipped y = if flipped then y +ℤ pos VDD_RAIL_Y else y +ℤ pos VSS_RAIL_Y

abbrev pub vdd_centre : Bool → ℤ → ℤ
vdd_centre flipped y = if flipped then y +ℤ pos VSS_RAIL_Y else y +ℤ pos VDD_RAIL_Y

-- the middles of the rails of one supply, from the lowest row up
abbrev pub centres : (Bool → ℤ → ℤ) → Bool → ℤ → List (List Member) → List ℤ
centres centre flipped y [] = []
centres centre flipped y (row ∷ rows) = centre flipped y ∷ centres centre (not flipped) (y +ℤ pos ROW_HEIGHT) rows

abbrev pub rail : ℤ → ℤ → Name → Item
rail end y name = level_wire (Alu One) (pos RAIL_WIDTH) (pos VSS_STRAP_X) end y (Some name)

-- the rails row by row, vss first
abbrev pub rails : ℤ → Bool → ℤ → List (List Member) → List Item
rails end flipped y [] = []
rails end flipped y (row ∷ rows) =
    rail end (vss_centre flipped y) vss ∷ rail end (vdd_centre flipped y) vdd
    ∷ rails end (not flipped) (y +ℤ pos ROW_HEIGHT) rows

-- the vias that tie a strap to the rails with these middles
abbrev pub strap_vias : ℤ → Name → List ℤ → List Item
strap_vias x name [] = []
strap_vias x name (y ∷ ys) = contact_at Via1 x y (Some name) ∷ contact_at Via2 x y (Some name) ∷ strap_vias x name ys

abbrev pub last_of : ℤ → List ℤ → ℤ
last_of y [] = y
last_of y (z ∷ zs) = last_of z zs

-- a strap on metal 3 from the lowest to the highest rail of a supply, perhaps of length 0, with its vias
abbrev pub strap : ℤ → Name → List ℤ → List Item
strap x name [] = []
strap x name (y ∷ ys) = upright_wire (Alu Three) (pos WIRE_WIDTH) x y (last_of y ys) (Some name) ∷ strap_vias x name (y ∷ ys)

-- rails up to this x, the strap of vss and that of vdd
abbrev pub supplies_to : ℤ → List (List Member) → List Item
supplies_to end rows =
    rails end false (pos 0) rows
    ++ (strap (pos VSS_STRAP_X) vss (centres vss_centre false (pos 0) rows)
    ++ strap (pos VDD_STRAP_X) vdd (centres vdd_centre false (pos 0) rows))

-- and up to the end of the widest row
abbrev pub supplies : Library → List (List Member) → List Item
supplies l rows = supplies_to (pos FIRST_CELL_X +ℤ rows_width l rows) rows

abbrev pub supply_ports : List Item
supply_ports =
    west_port (Alu One) (pos RAIL_WIDTH) (pos VSS_STRAP_X) (pos VSS_RAIL_Y) vss
    ∷ west_port (Alu One) (pos RAIL_WIDTH) (pos VSS_STRAP_X) (pos VDD_RAIL_Y) vdd
    ∷ []

-- ---- tracks

-- the y of the track of net k
abbrev pub track_y : ℕ → ℤ
track_y k = pos (FIRST_TRACK_Y + PITCH * k)

-- Each port bit stands at the left end of its net's track. Nets are numbered by their ports in the order of names first, so
-- port k has net k.
abbrev pub track_ports : ℕ → List Name → List Item
track_ports k [] = []
track_ports k (name ∷ rest) =
    west_port (Alu Two) (pos WIRE_WIDTH) (pos FIRST_CELL_X) (track_y k) name ∷ track_ports (suc k) rest

-- the nets are the classes without those of vdd and vss
abbrev pub net_count : AbstractNetlist → ℕ
net_count n = n.classes - 2

-- ---- routes over a grid

-- The block is as wide as its widest row; where ports stand above the rows, it has one column more than ports at least.
abbrev pub block_width : Library → Placement → ℤ
block_width l p = if p.tracks then rows_width l p.rows else int_max (rows_width l p.rows) (pos (PITCH * (length p.ports + 1)))

abbrev pub natural : ℤ → ℕ
natural (pos n) = n
natural (negsuc n) = 0

abbrev pub block_columns : Library → Placement → ℕ
block_columns l p = natural (block_width l p) / PITCH

-- the column of the port of rank k, of so many in a block of so many columns
abbrev pub port_column : ℕ → ℕ → ℕ → ℕ
port_column count columns k = 1 + k * ((columns - 1) / count)

-- the row of the grid above so many rows of cells, in which ports stand
abbrev pub port_row : ℕ → ℕ
port_row rows = ROW_HEIGHT / PITCH * rows + 1

-- the place of a column and of a row of the grid
abbrev pub column_x : ℕ → ℤ
column_x c = pos (FIRST_CELL_X + PITCH * c)

abbrev pub row_y : ℕ → ℤ
row_y r = pos (PITCH * r)

-- the ports from rank k on, above so many rows, where the port of a rank has this column
abbrev pub grid_ports : (ℕ → ℕ) → ℕ → ℕ → List Name → List Item
grid_ports column rows k [] = []
grid_ports column rows k (name ∷ rest) =
    north_port (Alu Three) (pos WIRE_WIDTH) (column_x (column k)) (row_y (port_row rows)) name ∷ grid_ports column rows (suc k) rest

-- ---- for both ways of routing

abbrev pub placed_ports : Library → Placement → List Item
placed_ports l p =
    if p.tracks
    then track_ports 0 p.ports
    else grid_ports (port_column (length p.ports) (block_columns l p)) (length p.rows) 0 p.ports

abbrev pub block_top : AbstractNetlist → Placement → ℤ
block_top n p = if p.tracks then track_y (net_count n) else pos (ROW_HEIGHT * length p.rows + 2 * PITCH)

abbrev pub block_box : AbstractNetlist → Library → Placement → Rect
block_box n l p = record { x1 = pos 0; y1 = pos 0; x2 = pos (FIRST_CELL_X + PITCH) +ℤ block_width l p; y2 = block_top n p }

-- a wire or a via; no connector, which a named wire on CALU is too, and no other line
abbrev pub IsWiring : Item → Type 0
IsWiring (item.Segment s) = wire_name s.layer s.name ≡ None
IsWiring (item.Via v) = Unit {0}
IsWiring (item.Connector c) = ⊥
IsWiring (item.Instance i) = ⊥
IsWiring (item.Reference r) = ⊥
IsWiring (item.Remark text) = ⊥

-- The instances, box, supplies and ports of a figure are those of a placement of the netlist. The lines
-- stand in this order: the supplies' ports, the others' in the order of names, the instances, rails and straps, the nets.
pub record IsPlaced (bounds : Rect) (items : List Item) (n : AbstractNetlist) (l : Library) (p : Placement) : Type 0 where
  pub order : AllPairs (λ a b. IsTrue (comes_before a b)) p.ports
  pub ports : (name : Name) → In name p.ports ↔ (In name n.ports × (name ≢ vdd) × (name ≢ vss))
  -- each instance of the netlist stands in the rows once, and where its line says
  pub each_once : IsPermutation (flat_map (λ row. row) p.rows) n.instances
  pub instances : List Instance
  pub rows : IsPermutation (standing_rows l false (pos 0) p.rows) instances
  pub wiring : List Item
  pub wires : (one : Item) → In one wiring → IsWiring one
  pub lines : items
      ≡ supply_ports ++ (placed_ports l p ++ (map item.Instance instances ++ (supplies_to (pos FIRST_CELL_X +ℤ block_width l p) p.rows ++ wiring)))
  pub box : bounds ≡ block_box n l p
