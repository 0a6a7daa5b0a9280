-- Where the terminals of a netlist lie whose instances stand in one row, with their classes.
use Rattle.std.specs.Prelude.{ℕ, ℤ, pos, ◌+ℤ◌, not, ◌||◌, nat_eq, List, [], ◌∷◌, ◌++◌, map, flat_map, filter, sum, length, slice_index_or, Option, None, Some, if◌then◌else◌}
use Prim.Native.Nat.{suc}
use Rattle.machine_core.specs.Machine.{names_of}
use Rattle.sym_geom.specs.declared.grid.TheConstants.{FIRST_CELL_X}
use Rattle.cell_model.specs.Cell.{Cell, pin_ports}
use Rattle.cell_model.specs.Library.{Library, cell_of}
use Rattle.cell_model.specs.Access.{Point, access_point, count_to}
use Rattle.net_meaning.specs.Netlist.{Member, AbstractNetlist, pin_of}
use Rattle.ocp_rows.specs.Placement.{model_width, track_y}
use Rattle.ocp_rows.specs.Length.{half_box}

-- a class, and a point of one of its terminals
abbrev pub Site : Type 0
Site = ℕ × Point

-- the point of a cell's pin, in an instance that stands at x, y 0
abbrev pub site_at : ℕ → ℤ → Option Point → List Site
site_at class x None = []
site_at class x (Some q) = (class, (q.0 +ℤ x, q.1)) ∷ []

-- the signal pins of an instance, in the order of names
abbrev pub own_sites : AbstractNetlist → ℤ → List ℕ → Option Cell → List Site
own_sites n x owner None = []
own_sites n x owner (Some c) = flat_map (λ pin. site_at (n.class (pin_of owner pin)) x (access_point c pin)) (names_of (pin_ports c))

-- those of instances that abut, from x on
abbrev pub row_sites : AbstractNetlist → Library → ℤ → List Member → List Site
row_sites n l x [] = []
row_sites n l x (one ∷ rest) = own_sites n x one.name (cell_of l one.model) ++ row_sites n l (x +ℤ model_width l one.model) rest

-- where instances begin that abut, from x on
abbrev pub row_starts : Library → ℤ → List Member → List ℤ
row_starts l x [] = []
row_starts l x (one ∷ rest) = x ∷ row_starts l (x +ℤ model_width l one.model) rest

abbrev pub pin_sites : AbstractNetlist → Library → List Site
pin_sites n l = row_sites n l (pos FIRST_CELL_X) n.instances

-- ports with these classes, the first of which has number k: each at the left end of its track
abbrev pub port_sites : ℕ → List ℕ → List Site
port_sites k [] = []
port_sites k (class ∷ rest) = (class, (pos FIRST_CELL_X, track_y k)) ∷ port_sites (suc k) rest

-- the points in one class, in their order
abbrev pub points_in : ℕ → List Site → List Point
points_in class [] = []
points_in class (s ∷ rest) = (if nat_eq s.0 class then s.1 ∷ [] else []) ++ points_in class rest

-- half the perimeter of the box of a class, where each class has its points; 0 for two of them
abbrev pub class_length : ℕ → ℕ → List (List Point) → ℕ → ℕ
class_length high low ends class = if not (nat_eq class high || nat_eq class low) then half_box (slice_index_or ends class []) else 0

-- half the perimeters of the boxes of all classes but two together, where each class has its points
abbrev pub length_of : ℕ → ℕ → List (List Point) → ℕ
length_of high low ends =
    sum (map (λ class. half_box (slice_index_or ends class [])) (filter (λ class. not (nat_eq class high || nat_eq class low)) (count_to (length ends))))
