-- What a structural text declares, which bits its maps name, and what they join.
use Rattle.std.specs.Prelude.{ℕ, Bool, false, ◌&&◌, List, [], ◌∷◌, ◌++◌, map, Option, None, Some, option_map, if◌then◌else◌}
use Rattle.std.specs.List.{flat_map, zip, slice_index_or}
use Rattle.vlsi_base.specs.declared.name.Name.{Name}
use Rattle.vlsi_base.specs.declared.name.Port.{Port}
use Rattle.vlsi_base.specs.declared.name.Terminal.{Terminal}
use Rattle.vlsi_base.specs.declared.range.Range.{Range}
use Rattle.vlsi_base.specs.declared.entity.SignalGroup.{SignalGroup}
use Rattle.vlsi_base.specs.Range.{is_ordered, range_bits}
use Rattle.vlsi_base.specs.Names.{scalar}
use Rattle.vlsi_base.specs.NamePlaces.{name_of, last_place}
use Rattle.source_checks.specs.declared.statement.Selection.{Selection}
use Rattle.source_checks.specs.declared.statement.Selection.TheVariants as selection
use Rattle.source_checks.specs.declared.statement.Target.{Target}
use Rattle.source_checks.specs.declared.symbol_table.Symbol.{Symbol}
use Rattle.source_checks.specs.Symbols.{port_symbols, signal_symbols, find, has_bit}
use Rattle.source_checks.specs.Elaboration.{ports_of_role}
use Rattle.net_core.specs.declared.pins.ModelPins.{ModelPins}
use Rattle.net_core.specs.Netlist.{Instance, port, pin_of}
use Rattle.net_core.specs.Checks.{pins_named}
use Rattle.vst_text.specs.declared.file.Component.{Component}
use Rattle.vst_text.specs.declared.file.Declaration.{Declaration}
use Rattle.vst_text.specs.declared.file.Declaration.TheVariants as declares
use Rattle.vst_text.specs.declared.file.PinName.{PinName}
use Rattle.vst_text.specs.declared.file.Association.{Association}
use Rattle.vst_text.specs.declared.file.InstanceStatement.{InstanceStatement}
use Rattle.vst_text.specs.declared.file.StructuralFile.{StructuralFile}

-- ---- declarations, in file order

abbrev pub signal_groups : List Declaration → List SignalGroup
signal_groups [] = []
signal_groups (declares.Component c ∷ rest) = signal_groups rest
signal_groups (declares.Signals s ∷ rest) = s ∷ signal_groups rest

abbrev pub components : List Declaration → List Component
components [] = []
components (declares.Component c ∷ rest) = c ∷ components rest
components (declares.Signals s ∷ rest) = components rest

-- the nets: the ports of the entity, and the signals
abbrev pub nets : StructuralFile → List Symbol
nets f = port_symbols f.entity.ports ++ signal_symbols (signal_groups f.declarations)

-- the pins of a component
abbrev pub pins : Component → List Symbol
pins c = port_symbols c.ports

-- the pins of the component of this name, where one is declared; no two have one name
abbrev pub pins_of : List Declaration → List ℕ → Option (List Symbol)
pins_of declared name =
    option_map (λ k. slice_index_or (map pins (components declared)) k []) (last_place (map (λ c. scalar c.name) (components declared)) (scalar name))

-- ---- bits, from the left

-- the bits of a vector; a scalar has the one without a number
abbrev pub bits_of : Option Range → List (Option ℕ)
bits_of None = None ∷ []
bits_of (Some r) = map Some (range_bits r)

-- a bit of this number lies in the declaration
abbrev pub holds : Option Range → ℕ → Bool
holds None k = false
holds (Some r) k = has_bit r k

-- The bits of a declaration that are selected, a range's in its own order. None are where an index or a range stands on a scalar or
-- isn't in the declaration, and where a range's bounds don't stand in the order of its word.
abbrev pub part_of : Option Range → Selection → List (Option ℕ)
part_of declared selection.Whole = bits_of declared
part_of declared (selection.Bit k) = if holds declared k then Some k ∷ [] else []
part_of declared (selection.Bits r) = if is_ordered r && (holds declared r.left && holds declared r.right) then bits_of (Some r) else []

-- those of a name; none where it isn't declared
abbrev pub selected : Option Symbol → Selection → List (Option ℕ)
selected None s = []
selected (Some declared) s = part_of declared.range s

abbrev pub pin_selection : Option ℕ → Selection
pin_selection None = selection.Whole
pin_selection (Some k) = selection.Bit k

abbrev pub pin_bits : List Symbol → PinName → List (Option ℕ)
pin_bits known p = selected (find known p.text) (pin_selection p.bit)

abbrev pub net_bits : List Symbol → Target → List (Option ℕ)
net_bits known n = selected (find known n.name) n.selection

abbrev pub names : List ℕ → List (Option ℕ) → List Name
names text bits = map (name_of text) bits

abbrev pub pin_names : List Symbol → Association → List Name
pin_names known a = names a.pin.text (pin_bits known a.pin)

abbrev pub net_names : List Symbol → Association → List Name
net_names known a = names a.net.name (net_bits known a.net)

-- the bits of ports with their directions; signals are none
abbrev pub port_bits : List Symbol → List Port
port_bits known = flat_map (λ s. ports_of_role s.role (names s.text (bits_of s.range))) known

-- ---- instances

abbrev pub instance_of : List ModelPins → InstanceStatement → Instance
instance_of table i = record { name = i.label; model = i.component; pins = map (λ p. p.name) (pins_named table i.component) }

-- each bit of a pin with the bit of the net that it is mapped to
abbrev pub links_of : List Symbol → List Symbol → List ℕ → Association → List (Terminal × Name)
links_of known_pins known_nets label a = zip (map (pin_of label) (pin_names known_pins a)) (net_names known_nets a)

abbrev pub map_links : StructuralFile → InstanceStatement → Option (List Symbol) → List (Terminal × Name)
map_links f i None = []
map_links f i (Some known) = flat_map (links_of known (nets f) i.label) i.associations

abbrev pub instance_links : StructuralFile → InstanceStatement → List (Terminal × Name)
instance_links f i = map_links f i (pins_of f.declarations i.component)

-- each terminal with the bit of a net that it stands for: a port with its own, a pin with the one that it is mapped to
abbrev pub links : StructuralFile → List (Terminal × Name)
links f = map (λ p. (port p.name, p.name)) (port_bits (nets f)) ++ flat_map (instance_links f) f.instances
