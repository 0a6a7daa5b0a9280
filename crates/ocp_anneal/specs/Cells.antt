-- The instances of a placement by number, with the nets of their pins; ports are pins of one more cell, which stands in no row.
use Rattle.std.specs.Prelude.{◌≡◌, ◌<◌, ℕ, ◌+◌, ◌*◌, ◌/◌, List, [], ◌∷◌, ◌++◌, map, filter, flat_map, not, ◌||◌, nat_eq, length, slice_index, slice_index_or, Bool, Option, None, Some}
use Prim.Native.Nat.{suc}
use Rattle.std.specs.Global.{Vec}
use Rattle.machine_core.specs.Machine.{names_of}
use Rattle.sym_geom.specs.declared.grid.TheConstants.{FIRST_CELL_X, PITCH}
use Rattle.cell_model.specs.Access.{Point, count_to, access_point}
use Rattle.cell_model.specs.Cell.{Cell, pin_ports}
use Rattle.cell_model.specs.Library.{Library, cell_of}
use Rattle.cell_checks.specs.declared.points.GridPoint.{GridPoint}
use Rattle.net_meaning.specs.Netlist.{Member, AbstractNetlist, pin_of}
use Rattle.row_meaning.specs.declared.Pin.{Pin}
use Rattle.row_meaning.specs.Length.{Block}
use Rattle.ocp_rows.specs.Placement.{natural, port_column, port_row}
use Rattle.ocp_rows.specs.Length.{is_net}
use Rattle.ocp_place.specs.declared.reach.PinReach.{PinReach}
use Rattle.ocp_place.specs.Nets.{port_classes}
use Rattle.ocp_place.specs.Placed.{InRow}
use Rattle.ocp_place.specs.Stood.{instance_widths}
use Rattle.ocp_anneal.specs.declared.cells.Tied.{Tied}
use Rattle.ocp_anneal.specs.declared.cells.Parts.{Parts}

-- ---- pins with the classes of their nets

abbrev pub tied : ℕ → ℕ → ℕ → ℕ → Tied
tied class cell x y = record { class = class; pin = record { cell = cell; x = x; y = y } }

-- a pin of a cell, if it is reached
abbrev pub reached_pin : ℕ → ℕ → Option GridPoint → List Tied
reached_pin cell class None = []
reached_pin cell class (Some q) = tied class cell q.x q.y ∷ []

-- the pins of an instance, all of whose pins have these classes
abbrev pub reached_pins : ℕ → List ℕ → List PinReach → List Tied
reached_pins cell classes pins = flat_map (λ p. reached_pin cell (slice_index classes p.place) p.point) pins

-- a pin at a point, if there is one
abbrev pub point_pin : ℕ → ℕ → Option Point → List Tied
point_pin cell class None = []
point_pin cell class (Some q) = tied class cell (natural q.0) (natural q.1) ∷ []

-- the signal pins of an instance of a netlist, in the order of names
abbrev pub own_pins : AbstractNetlist → ℕ → List ℕ → Option Cell → List Tied
own_pins n i owner None = []
own_pins n i owner (Some c) = flat_map (λ pin. point_pin i (n.class (pin_of owner pin)) (access_point c pin)) (names_of (pin_ports c))

-- those of instances, the first of which has number i
abbrev pub cell_pins : AbstractNetlist → Library → ℕ → List Member → List Tied
cell_pins n l i [] = []
cell_pins n l i (m ∷ ms) = own_pins n i m.name (cell_of l m.model) ++ cell_pins n l (suc i) ms

-- ports of these classes from rank k on, above so many rows, as pins of one cell: each in the column of its rank
abbrev pub port_pins : (ℕ → ℕ) → ℕ → ℕ → ℕ → List ℕ → List Tied
port_pins column rows cell k [] = []
port_pins column rows cell k (class ∷ rest) =
    tied class cell (FIRST_CELL_X + PITCH * column k) (PITCH * port_row rows) ∷ port_pins column rows cell (suc k) rest

-- all of them, where a netlist is placed
abbrev pub top_pins : AbstractNetlist → InRow → List Tied
top_pins n p = port_pins (port_column (length (port_classes n)) (p.width / PITCH)) (length p.rows) (length n.instances) 0 (port_classes n)

abbrev pub all_pins : AbstractNetlist → Library → InRow → List Tied
all_pins n l p = cell_pins n l 0 n.instances ++ top_pins n p

-- ---- nets

-- the pins in one class
abbrev pub pins_in : ℕ → List Tied → List Pin
pins_in class pins = map (λ t. t.pin) (filter (λ t. nat_eq t.class class) pins)

-- pins by their classes
pub record AreNets (pins : List Tied) (nets : List (Vec Pin)) : Type 0 where
  pub each : (c : ℕ) (d : Vec Pin) → c < length nets → (slice_index_or nets c d).items ≡ pins_in c pins

-- a class that is neither of two
abbrev pub is_other : ℕ → ℕ → ℕ → Bool
is_other high low class = not (nat_eq class high || nat_eq class low)

-- the nets of the classes that are neither of two
abbrev pub other_nets : ℕ → ℕ → List (List Pin) → List (List Pin)
other_nets high low nets = map (λ c. slice_index_or nets c []) (filter (is_other high low) (count_to (length nets)))

-- for each class but those of supplies its pins
abbrev pub signal_nets : AbstractNetlist → List Tied → List (List Pin)
signal_nets n pins = map (λ c. pins_in c pins) (filter (is_net n) (count_to n.classes))

-- ---- blocks

-- one more width, behind those of the instances, which holds the ports
abbrev pub last_width : InRow → ℕ
last_width p = FIRST_CELL_X + PITCH * (p.width / PITCH + 1)

-- the instances alone, and with the ports
pub record AreInstances (n : AbstractNetlist) (l : Library) (p : Parts) : Type 0 where
  pub widths : p.widths.items ≡ instance_widths l n.instances
  pub pins : p.pins.items ≡ cell_pins n l 0 n.instances

pub record AreParts (n : AbstractNetlist) (l : Library) (p : InRow) (parts : Parts) : Type 0 where
  pub widths : parts.widths.items ≡ instance_widths l n.instances ++ last_width p ∷ []
  pub pins : parts.pins.items ≡ all_pins n l p

-- the cells of a placed netlist by number
abbrev pub placed_block : AbstractNetlist → Library → InRow → Block
placed_block n l p = record {
  left = FIRST_CELL_X;
  widths = instance_widths l n.instances ++ last_width p ∷ [];
  nets = signal_nets n (all_pins n l p);
}
