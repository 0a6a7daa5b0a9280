-- A placed netlist by number: its instances are cells, and its nets are lists of their pins.
use Rattle.std.specs.Prelude.{◌+◌, ◌*◌, ◌++◌, ℕ, List, [], ◌∷◌, map, filter, length, Option, None, Some, nat_eq, if◌then◌else◌}
use Rattle.std.specs.List.{filter_map}
use Rattle.std.specs.Option.{option_map}
use Prim.Native.Nat.{suc}
use Rattle.sym_geom.specs.declared.grid.TheConstants.{FIRST_CELL_X, PITCH}
use Rattle.vlsi_base.specs.declared.name.Name.{Name}
use Rattle.machine_core.specs.Named.{is_same_text}
use Rattle.cell_model.specs.Access.{Point, count_to, access_point}
use Rattle.cell_model.specs.Cell.{Cell}
use Rattle.cell_model.specs.Library.{Library, cell_of}
use Rattle.net_meaning.specs.Netlist.{Member, AbstractNetlist}
use Rattle.ocp_rows.specs.Placement.{Placement, natural, block_columns}
use Rattle.ocp_rows.specs.Length.{point_of, terminals, is_net}
use Rattle.ocp_place.specs.Stood.{member, instance_widths}
use Rattle.row_meaning.specs.declared.Pin.{Pin}
use Rattle.row_meaning.specs.Length.{Block}

-- the number of the instance of this name, where the first has number i
abbrev pub number_of : ℕ → List Member → List ℕ → Option ℕ
number_of i [] owner = None
number_of i (m ∷ ms) owner = if is_same_text m.name owner then Some i else number_of (suc i) ms owner

-- a point as a pin of the cell with this number
abbrev pub pin_at : ℕ → Point → Pin
pin_at i q = record { cell = i; x = natural q.0; y = natural q.1 }

abbrev pub cell_pin : ℕ → Option Cell → Name → Option Pin
cell_pin i None pin = None
cell_pin i (Some c) pin = option_map (pin_at i) (access_point c pin)

abbrev pub own_pin : Library → List Member → Option ℕ → Name → Option Pin
own_pin l ms None pin = None
own_pin l ms (Some i) pin = cell_pin i (cell_of l (member ms i).model) pin

-- A terminal as a pin. A port is a pin of one more cell, which stands in no row.
abbrev pub terminal_pin : AbstractNetlist → Library → Placement → Option (List ℕ) → Name → Option Pin
terminal_pin n l p None name = option_map (pin_at (length n.instances)) (point_of l p None name)
terminal_pin n l p (Some owner) name = own_pin l n.instances (number_of 0 n.instances owner) name

-- the pins of class k
abbrev pub net_pins : AbstractNetlist → Library → Placement → ℕ → List Pin
net_pins n l p k = filter_map (λ t. if nat_eq (n.class t) k then terminal_pin n l p t.instance t.pin else None) (terminals n l)

-- how wide the cell of the ports is: they stand no further to the right
abbrev pub ports_width : Library → Placement → ℕ
ports_width l p = FIRST_CELL_X + PITCH * (block_columns l p + 1)

-- The cells are the instances in their order, and that of the ports.
abbrev pub numbered : AbstractNetlist → Library → Placement → Block
numbered n l p = record {
  left = FIRST_CELL_X;
  widths = instance_widths l n.instances ++ ports_width l p ∷ [];
  nets = map (net_pins n l p) (filter (is_net n) (count_to n.classes));
}
