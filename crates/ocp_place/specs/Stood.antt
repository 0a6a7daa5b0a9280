-- Where the instances of a netlist stand that are placed in rows, and where their pins and the ports above them then lie.
use Rattle.std.specs.Prelude.{ℕ, ◌*◌, ◌/◌, ◌%◌, ◌==◌, pos, Bool, not, List, [], ◌∷◌, map, flat_map, length, slice_index_or, Option, None, Some}
use Prim.Native.Nat.{suc}
use Rattle.machine_core.specs.Machine.{names_of}
use Rattle.sym_geom.specs.declared.grid.TheConstants.{ROW_HEIGHT, PITCH}
use Rattle.sym_geom.specs.declared.item.Instance.{Instance}
use Rattle.cell_model.specs.Cell.{Cell, pin_ports}
use Rattle.cell_model.specs.Library.{Library, cell_of}
use Rattle.cell_model.specs.Access.{Point, access_point}
use Rattle.net_meaning.specs.Netlist.{Member, AbstractNetlist, pin_of}
use Rattle.ocp_rows.specs.Placement.{turn_of, natural, model_width, port_column, port_row, column_x, row_y}
use Rattle.ocp_rows.specs.Length.{shown_point}
use Rattle.ocp_place.specs.Sites.{Site}

-- ---- instances

-- the instance of a number
abbrev pub member : List Member → ℕ → Member
member ms i = slice_index_or ms i (record { name = []; model = [] })

-- rows of instances, for rows of their numbers
abbrev pub named_rows : List Member → List (List ℕ) → List (List Member)
named_rows ms rows = map (λ row. map (member ms) row) rows

-- every other row is upside down
abbrev pub is_turned : ℕ → Bool
is_turned r = not (r % 2 == 0)

-- an instance that begins at x in row r
abbrev pub stood : Member → ℕ → ℕ → Instance
stood m x r = record { x = pos x; y = pos (ROW_HEIGHT * r); model = m.model; name = m.name; transform = turn_of (is_turned r) }

-- instances in their order, where each has its x and its row
abbrev pub stood_all : List Member → List ℕ → List ℕ → List Instance
stood_all [] xs rows = []
stood_all (m ∷ ms) [] rows = []
stood_all (m ∷ ms) (x ∷ xs) [] = []
stood_all (m ∷ ms) (x ∷ xs) (r ∷ rows) = stood m x r ∷ stood_all ms xs rows

-- how wide instances are, in hundredths and in columns
abbrev pub instance_widths : Library → List Member → List ℕ
instance_widths l ms = map (λ m. natural (model_width l m.model)) ms

abbrev pub instance_columns : Library → List Member → List ℕ
instance_columns l ms = map (λ m. natural (model_width l m.model) / PITCH) ms

-- ---- their pins, and ports

-- a class, and a point, if there is one
abbrev pub point_site : ℕ → Option Point → List Site
point_site class None = []
point_site class (Some q) = (class, q) ∷ []

-- the signal pins of an instance, in the order of names
abbrev pub shown_sites : AbstractNetlist → Instance → Option Cell → List Site
shown_sites n i None = []
shown_sites n i (Some c) = flat_map (λ pin. point_site (n.class (pin_of i.name pin)) (shown_point c i (access_point c pin))) (names_of (pin_ports c))

-- those of instances in their order
abbrev pub stood_sites : AbstractNetlist → Library → List Instance → List Site
stood_sites n l instances = flat_map (λ i. shown_sites n i (cell_of l i.model)) instances

-- ports with these classes, from rank k on, above so many rows: each in the column of its rank
abbrev pub grid_sites : (ℕ → ℕ) → ℕ → ℕ → List ℕ → List Site
grid_sites column rows k [] = []
grid_sites column rows k (class ∷ rest) = (class, (column_x (column k), row_y (port_row rows))) ∷ grid_sites column rows (suc k) rest

-- in a block of so many columns
abbrev pub port_grid_sites : ℕ → ℕ → List ℕ → List Site
port_grid_sites columns rows classes = grid_sites (port_column (length classes) columns) rows 0 classes
