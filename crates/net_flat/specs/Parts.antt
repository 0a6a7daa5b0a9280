-- What the cells of a netlist's instances are.
use Rattle.std.specs.Prelude.{◌≡◌, Bool, true, false, List, [], ◌∷◌, ◌++◌, Option, None, Some, if◌then◌else◌}
use Rattle.std.specs.List.{flat_map}
use Rattle.vlsi_base.specs.declared.name.Name.{Name}
use Rattle.vlsi_base.specs.Names.{scalar}
use Rattle.cell_model.specs.Cell.{Function, gate, flip_flop, other, opaque, Cell}
use Rattle.cell_model.specs.Library.{Library, cell_of}
use Rattle.net_core.specs.Netlist.{Instance}
use Rattle.net_flat.specs.declared.parts.Part.{Part}
use Rattle.net_flat.specs.declared.parts.Part.TheVariants as part

-- a gate, a plain flip-flop, or anything else
abbrev pub part_of : Function → Part
part_of (gate e) = part.Gate
part_of (flip_flop data_pin clock_pin) = part.Register
part_of (other m) = part.Other
part_of opaque = part.Other

abbrev pub part_at : Option Cell → Part
part_at None = part.Gate
part_at (Some c) = part_of c.function

abbrev pub names_if : Part → Instance → List Name
names_if part.Gate i = []
names_if part.Register i = scalar i.name ∷ []
names_if part.Other i = []

-- the names of the instances that are flip-flops, in the order of instances
abbrev pub registers_of : Library → List Instance → List Name
registers_of l is = flat_map (λ i. names_if (part_at (cell_of l i.model)) i) is
