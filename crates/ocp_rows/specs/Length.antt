-- How long the nets of a placement are: half perimeters of the boxes of their points.
use Rattle.std.specs.Prelude.{ℕ, ◌+◌, ℤ, pos, ◌-ℤ◌, Bool, false, not, ◌||◌, List, [], ◌∷◌, ◌++◌, map, filter, length, Option, None, Some, nat_eq, if◌then◌else◌, sum}
use Rattle.sym_geom.specs.declared.grid.TheConstants.{FIRST_CELL_X}
use Prim.Native.Nat.{suc}
use Rattle.std.specs.Int.{int_min, int_max}
use Rattle.std.specs.List.{flat_map, filter_map}
use Rattle.vlsi_base.specs.declared.name.Name.{Name}
use Rattle.vlsi_base.specs.declared.name.Terminal.{Terminal}
use Rattle.machine_core.specs.Named.{is_same_name, is_same_text}
use Rattle.sym_geom.specs.Rect.{square, moved, turned}
use Rattle.sym_geom.specs.declared.rect.Rect.{Rect}
use Rattle.sym_geom.specs.declared.item.Instance.{Instance}
use Rattle.sym_shapes.specs.Shape.{connector_names}
use Rattle.cell_model.specs.Access.{Point, count_to, access_point}
use Rattle.cell_model.specs.Cell.{Cell, cell_width, cell_height}
use Rattle.cell_model.specs.Library.{Library, cell_of}
use Rattle.net_meaning.specs.Netlist.{AbstractNetlist, port, pin_of}
use Rattle.vlsi_base.specs.Names.{vdd, vss}
use Rattle.ocp_rows.specs.Placement.{Placement, natural, standing_rows, track_y, block_columns, port_column, port_row, column_x, row_y}

-- a point of a cell, as an instance shows it
abbrev pub shown_point : Cell → Instance → Option Point → Option Point
shown_point c i None = None
shown_point c i (Some q) = corner (moved (turned i.transform (square q.0 q.1 (pos 0)) (cell_width c) (cell_height c)) i.x i.y) where
  corner : Rect → Option Point
  corner r = Some (r.x1, r.y1)

abbrev pub instance_point : Option Cell → Instance → Name → Option Point
instance_point None i pin = None
instance_point (Some c) i pin = shown_point c i (access_point c pin)

-- the point of a pin of the instance of this name, among placed instances
abbrev pub pin_point : Library → List Instance → List ℕ → Name → Option Point
pin_point l [] owner pin = None
pin_point l (i ∷ rest) owner pin = if is_same_text i.name owner then instance_point (cell_of l i.model) i pin else pin_point l rest owner pin

-- the point of a port, from number k on: at the left end of its track
abbrev pub port_point : ℕ → List Name → Name → Option Point
port_point k [] name = None
port_point k (one ∷ rest) name =
    if is_same_name one name then Some (pos FIRST_CELL_X, track_y k) else port_point (suc k) rest name

-- the point of a port, from rank k on: in its column, above the rows
abbrev pub grid_point : (ℕ → ℕ) → ℕ → ℕ → List Name → Name → Option Point
grid_point column rows k [] name = None
grid_point column rows k (one ∷ rest) name =
    if is_same_name one name
    then Some (column_x (column k), row_y (port_row rows))
    else grid_point column rows (suc k) rest name

abbrev pub point_of : Library → Placement → Option (List ℕ) → Name → Option Point
point_of l p None name =
    if p.tracks
    then port_point 0 p.ports name
    else grid_point (port_column (length p.ports) (block_columns l p)) (length p.rows) 0 p.ports name
point_of l p (Some owner) name = pin_point l (standing_rows l false (pos 0) p.rows) owner name

abbrev pub cell_terminals : Option Cell → List ℕ → List Terminal
cell_terminals None owner = []
cell_terminals (Some c) owner = map (pin_of owner) (connector_names c.items)

-- the terminals of a netlist: its ports, then the pins of its instances
abbrev pub terminals : AbstractNetlist → Library → List Terminal
terminals n l = map port n.ports ++ flat_map (λ i. cell_terminals (cell_of l i.model) i.name) n.instances

-- the points of the terminals of class k
abbrev pub net_points : AbstractNetlist → Library → Placement → ℕ → List Point
net_points n l p k = filter_map (λ t. if nat_eq (n.class t) k then point_of l p t.instance t.pin else None) (terminals n l)

abbrev pub least : ℤ → List ℤ → ℤ
least x [] = x
least x (y ∷ ys) = least (int_min x y) ys

abbrev pub greatest : ℤ → List ℤ → ℤ
greatest x [] = x
greatest x (y ∷ ys) = greatest (int_max x y) ys

-- from the least to the greatest
abbrev pub extent : List ℤ → ℕ
extent [] = 0
extent (x ∷ xs) = natural (greatest x xs -ℤ least x xs)

-- half the perimeter of the box of some points
abbrev pub half_box : List Point → ℕ
half_box points = extent (map (λ q. q.0) points) + extent (map (λ q. q.1) points)

-- class k is a net: it is neither that of vdd nor that of vss
abbrev pub is_net : AbstractNetlist → ℕ → Bool
is_net n k = not (nat_eq k (n.class (port vdd)) || nat_eq k (n.class (port vss)))

-- the half perimeters of all nets together
abbrev pub half_perimeter : AbstractNetlist → Library → Placement → ℕ
half_perimeter n l p = sum (map (λ k. half_box (net_points n l p k)) (filter (is_net n) (count_to n.classes)))
