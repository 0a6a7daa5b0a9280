-- What is wrong with a structural text, in the order in which it is answered.
use Rattle.std.specs.Prelude.{ℕ, ◌+◌, ◌-◌, ◌^◌, Bool, true, false, not, ◌&&◌, ◌||◌, nat_eq, nat_lt, min, is_none, is_some, bytes_eq}
use Rattle.std.specs.Prelude.{List, [], ◌∷◌, ◌++◌, map, length, Option, None, Some, if◌then◌else◌}
use Rattle.std.specs.List.{flat_map, list_all, list_any, sum_by}
use Rattle.vlsi_base.specs.declared.name.Name.{Name}
use Rattle.vlsi_base.specs.declared.name.Dir.{Dir}
use Rattle.vlsi_base.specs.declared.name.Dir.TheVariants as dir
use Rattle.vlsi_base.specs.declared.range.Range.{Range}
use Rattle.vlsi_base.specs.declared.entity.PortGroup.{PortGroup}
use Rattle.vlsi_base.specs.declared.fault.FaultKind.TheVariants as kind
use Rattle.vlsi_base.specs.declared.fault.LimitKind.TheVariants as limit
use Rattle.vlsi_base.specs.declared.fault.ReadError.{ReadError}
use Rattle.vlsi_base.specs.declared.fault.ReadError.TheVariants as error
use Rattle.vlsi_base.specs.Name.{is_supply}
use Rattle.vlsi_base.specs.Names.{scalar}
use Rattle.vlsi_base.specs.NamePlaces.{last_place}
use Rattle.source_checks.specs.declared.symbol_table.Role.{Role}
use Rattle.source_checks.specs.declared.symbol_table.Role.TheVariants as role
use Rattle.source_checks.specs.declared.symbol_table.Symbol.{Symbol}
use Rattle.source_checks.specs.Symbols.{find, has_bit, is_port}
use Rattle.source_checks.specs.Widths.{if_not, declared_faults, port_faults}
use Rattle.source_checks.specs.Unsupported.{supply_faults, is_in_mode, is_bit_word, is_inout, is_resolved}
use Rattle.source_checks.specs.Checks.{fault, if_line, if_symbol, first_repeated}
use Rattle.net_core.specs.declared.pins.ModelPin.{ModelPin}
use Rattle.net_core.specs.declared.pins.ModelPins.{ModelPins}
use Rattle.net_core.specs.Places.{position_of}
use Rattle.net_core.specs.Checks.{pins_named}
use Rattle.vst_text.specs.declared.file.Component.{Component}
use Rattle.vst_text.specs.declared.file.Declaration.{Declaration}
use Rattle.vst_text.specs.declared.file.Declaration.TheVariants as declares
use Rattle.vst_text.specs.declared.file.Association.{Association}
use Rattle.vst_text.specs.declared.file.InstanceStatement.{InstanceStatement}
use Rattle.vst_text.specs.declared.file.StructuralFile.{StructuralFile}
use Rattle.vst_io.specs.Nets.{nets, pins, pins_of, components, pin_bits, net_bits, pin_names, port_bits}

-- ---- declarations: the lines of the tokens at fault, in file order

-- ranges whose bounds don't stand in the order of their word
abbrev pub declaration_widths : Declaration → List ℕ
declaration_widths (declares.Component c) = port_faults c.ports
declaration_widths (declares.Signals s) = declared_faults s.kind.range

abbrev pub all_widths : StructuralFile → List ℕ
all_widths f = port_faults f.entity.ports ++ flat_map declaration_widths f.declarations

abbrev pub is_in_bit : PortGroup → Bool
is_in_bit g = is_in_mode g.mode && (is_bit_word g.kind.word && is_none g.kind.range)

-- forms that are left out: of the entity's own ports the names vdd and vss, unless they are `in bit`; then mode inout; then the types
-- mux and wor
abbrev pub port_form : Bool → PortGroup → List ℕ
port_form own g =
    supply_faults (not own || is_in_bit g) g.names
    ++ (if_not (not (is_inout g.mode)) g.mode_line ++ if_not (not (is_resolved g.kind.word)) g.kind.line)

abbrev pub declaration_forms : Declaration → List ℕ
declaration_forms (declares.Component c) = flat_map (port_form false) c.ports
declaration_forms (declares.Signals s) = if_not (not (is_resolved s.kind.word)) s.kind.line

abbrev pub all_forms : StructuralFile → List ℕ
all_forms f = flat_map (port_form true) f.entity.ports ++ flat_map declaration_forms f.declarations

-- ---- components

-- the first component whose name the table doesn't list
abbrev pub first_unlisted : List ModelPins → List Component → Option Component
first_unlisted table [] = None
first_unlisted table (c ∷ rest) = if is_none (position_of (map (λ m. m.model) table) c.name) then Some c else first_unlisted table rest

abbrev pub lies_in : Option Range → Option ℕ → Bool
lies_in None None = true
lies_in None (Some k) = false
lies_in (Some r) None = false
lies_in (Some r) (Some k) = has_bit r k

abbrev pub goes : Role → Dir → Bool
goes role.Input dir.In = true
goes role.Output dir.Out = true
goes _ _ = false

abbrev pub declares_pin : Option Symbol → ModelPin → Bool
declares_pin None p = false
declares_pin (Some s) p = lies_in s.range p.name.bit && goes s.role p.dir

-- a model's pin is a bit of the component's port of its name, with its direction
abbrev pub is_declared_pin : List Symbol → ModelPin → Bool
is_declared_pin known p = declares_pin (find known p.name.text) p

-- the ports of a component are the pins of its model: as many bits as pins, and each pin is one of them
abbrev pub has_pins : List Symbol → List ModelPin → Bool
has_pins known model = nat_eq (length (port_bits known)) (length model) && list_all (is_declared_pin known) model

abbrev pub component_faults : List ModelPins → Declaration → List ℕ
component_faults table (declares.Component c) = if_not (has_pins (pins c) (pins_named table c.name)) c.line
component_faults table (declares.Signals s) = []

-- ---- maps

abbrev pub stands : List Name → Name → Bool
stands among n = is_some (last_place among n)

-- what stands before an arrow: bits of the component, pins of its model, none of which is mapped before
abbrev pub is_free : List ModelPin → List Name → List Name → Bool
is_free model mapped ns = nat_lt 0 (length ns) && list_all (λ n. stands (map (λ p. p.name) model) n && not (stands mapped n)) ns

abbrev pub is_net_port : Option Symbol → Bool
is_net_port None = false
is_net_port (Some s) = is_port s.role

-- vdd and vss go to the ports of these names
abbrev pub is_tied : List Symbol → Association → Bool
is_tied known_nets a = not (is_supply a.pin.text) || (bytes_eq a.net.name a.pin.text && is_net_port (find known_nets a.net.name))

-- what stands behind an arrow: so many bits of a net
abbrev pub fits : List Symbol → Association → ℕ → Bool
fits known_nets a width = nat_eq (length (net_bits known_nets a.net)) width && is_tied known_nets a

-- the lines at fault among the associations of a map, where these pins are mapped before
abbrev pub association_faults : List Symbol → List Symbol → List ModelPin → List Name → List Association → List ℕ
association_faults known known_nets model mapped [] = []
association_faults known known_nets model mapped (a ∷ rest) =
    if_not (is_free model mapped (pin_names known a)) a.pin.line
    ++ (if_not (fits known_nets a (length (pin_bits known a.pin))) a.net.line
    ++ association_faults known known_nets model (mapped ++ pin_names known a) rest)

-- each pin is mapped, else the map's end is at fault
abbrev pub end_faults : List Symbol → List ModelPin → InstanceStatement → List ℕ
end_faults known model i = if_not (list_all (λ p. stands (flat_map (pin_names known) i.associations) p.name) model) i.end_line

-- where the instance's component, with these pins, is declared
abbrev pub map_faults : List ModelPins → StructuralFile → InstanceStatement → Option (List Symbol) → List ℕ
map_faults table f i None = i.component_line ∷ []
map_faults table f i (Some known) =
    association_faults known (nets f) (pins_named table i.component) [] i.associations ++ end_faults known (pins_named table i.component) i

abbrev pub instance_faults : List ModelPins → StructuralFile → InstanceStatement → List ℕ
instance_faults table f i = map_faults table f i (pins_of f.declarations i.component)

abbrev pub bad_maps : List ModelPins → StructuralFile → List ℕ
bad_maps table f = flat_map (component_faults table) f.declarations ++ flat_map (instance_faults table f) f.instances

-- ---- all together

-- how many terminals there are: bits of ports, and pins of instances
abbrev pub terminal_count : List ModelPins → StructuralFile → ℕ
terminal_count table f = length (port_bits (nets f)) + sum_by (λ i. length (pins_named table i.component)) f.instances

-- the first label that an earlier one repeats
abbrev pub first_label_again : List (List ℕ) → List InstanceStatement → Option InstanceStatement
first_label_again before [] = None
first_label_again before (i ∷ rest) = if list_any (bytes_eq i.label) before then Some i else first_label_again (i.label ∷ before) rest

abbrev pub if_unlisted : Option Component → Option ReadError → Option ReadError
if_unlisted None later = later
if_unlisted (Some c) later = Some (fault kind.UnknownCell c.line (scalar c.name ∷ []))

abbrev pub if_many : ℕ → Option ReadError → Option ReadError
if_many n later = if nat_lt n (2 ^ 32) then later else Some (error.Limit (record { which = limit.Bits; reached = min n (2 ^ 64 - 1) }))

abbrev pub if_again : Option InstanceStatement → Option ReadError → Option ReadError
if_again None later = later
if_again (Some i) later = Some (fault kind.Twice i.line (scalar i.label ∷ []))

-- The checks before those of the netlist, in their order. A reader of texts refuses a name or a label that is declared twice where it
-- stands.
abbrev pub first_fault : List ModelPins → StructuralFile → Option ReadError
first_fault table f =
    if_line kind.Width (all_widths f)
    (if_line kind.Unsupported (all_forms f)
    (if_unlisted (first_unlisted table (components f.declarations))
    (if_line kind.BadMap (bad_maps table f)
    (if_many (terminal_count table f)
    (if_symbol (first_repeated [] (nets f))
    (if_again (first_label_again [] f.instances) None))))))
