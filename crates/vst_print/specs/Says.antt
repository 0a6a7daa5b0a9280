-- What is written of a netlist is a sentence, and what the sentence says.
use Rattle.std.specs.Prelude.{◌≡◌, ◌↔◌, ℕ, ◌+◌, ◌-◌, ◌^◌, ◌<◌, ◌≤◌, List, [], ◌∷◌, ◌++◌, map, length, Option, None, Some}
use Rattle.std.specs.List.{All, flat_map}
use Rattle.vlsi_base.specs.declared.name.Name.{Name}
use Rattle.vlsi_base.specs.declared.name.Port.{Port}
use Rattle.vlsi_base.specs.declared.name.Dir.{Dir}
use Rattle.vlsi_base.specs.declared.name.Dir.TheVariants as dir
use Rattle.vlsi_base.specs.declared.name.Terminal.{Terminal}
use Rattle.vlsi_base.specs.declared.entity.Mode.{Mode}
use Rattle.vlsi_base.specs.declared.entity.Mode.TheVariants as mode
use Rattle.vlsi_base.specs.declared.entity.NewName.{NewName}
use Rattle.vlsi_base.specs.declared.entity.PortGroup.{PortGroup}
use Rattle.vlsi_base.specs.declared.range.Range.{Range}
use Rattle.vlsi_base.specs.Range.{rising, least, range_span}
use Rattle.vhdl_lexer.specs.Listing.{tokens_in, refusal_in}
use Rattle.grammar_theory.specs.declared.limits.TheConstants.{BITS}
use Rattle.source_checks.specs.declared.statement.Selection.{Selection}
use Rattle.source_checks.specs.declared.statement.Selection.TheVariants as selection
use Rattle.source_checks.specs.declared.statement.Target.{Target}
use Rattle.spell_theory.specs.Layout.{text_of}
use Rattle.vst_text.specs.declared.file.Component.{Component}
use Rattle.vst_text.specs.declared.file.Declaration.{Declaration}
use Rattle.vst_text.specs.declared.file.Declaration.TheVariants as declares
use Rattle.vst_text.specs.declared.file.PinName.{PinName}
use Rattle.vst_text.specs.declared.file.Association.{Association}
use Rattle.vst_text.specs.declared.file.InstanceStatement.{InstanceStatement}
use Rattle.vst_text.specs.declared.file.StructuralFile.{StructuralFile}
use Rattle.vst_text.specs.Vst.{IsStructure}
use Rattle.net_core.specs.declared.pins.ModelPins.{ModelPins}
use Rattle.net_core.specs.Places.{Stands, IsThere, NoneTwice}
use Rattle.net_core.specs.Netlist.{Instance, Netlist, IsNetlist, port, pin_of, HasClass}
use Rattle.net_core.specs.Checks.{Fits, pins_named}
use Rattle.net_right.specs.Writable.{port_of, CanBeNamed, PinsCanBeWritten}
use Rattle.vst_print.specs.Nets.{port_nets}
use Rattle.vst_print.specs.Written.{used_models, layout}
use Rattle.vst_print.specs.Placed.{file_of}

-- ---- what a text says

abbrev pub dir_of : Mode → Dir
dir_of mode.In = dir.In
dir_of mode.Out = dir.Out
dir_of mode.Inout = dir.Out

-- the bits of a declared name, from the least to the greatest
abbrev pub bit_ports : Mode → Option Range → NewName → List Port
bit_ports m None n = record { name = record { text = n.text; bit = None }; dir = dir_of m } ∷ []
bit_ports m (Some r) n = map (λ k. record { name = record { text = n.text; bit = Some k }; dir = dir_of m }) (rising (least r) (range_span r))

-- the ports that a group declares
abbrev pub ports_of : PortGroup → List Port
ports_of g = flat_map (bit_ports g.mode g.kind.range) g.names

-- the components among declarations, and the names of the signals
abbrev pub components_of : List Declaration → List Component
components_of [] = []
components_of (declares.Component c ∷ ds) = c ∷ components_of ds
components_of (declares.Signals s ∷ ds) = components_of ds

-- the bit of a selection that is a whole signal or one bit
abbrev pub bit_of : Selection → Option ℕ
bit_of selection.Whole = None
bit_of (selection.Bit k) = Some k
bit_of (selection.Bits r) = None

-- the name of a pin, and of the net that it is joined to
abbrev pub pin_name : Association → Name
pin_name a = record { text = a.pin.text; bit = a.pin.bit }

abbrev pub net_name : Association → Name
net_name a = record { text = a.net.name; bit = bit_of a.net.selection }

-- an instance of the text joins its pin to a net
pub record Joins (file : StructuralFile) (pin : Terminal) (net : Name) : Type 0 where
  pub statement : InstanceStatement
  pub listed : IsThere file.instances statement
  pub association : Association
  pub there : IsThere statement.associations association
  pub pin_is : pin ≡ pin_of statement.label (pin_name association)
  pub net_is : net ≡ net_name association

-- The text says the netlist: its name and its ports; a component for each model that an instance has, with the model's pins; its
-- instances in their order, each with its model, and with each of its pins joined once; pins are joined to one net exactly where
-- they have one class, and to a port exactly where this port is in their class.
pub record Says (n : Netlist) (table : List ModelPins) (file : StructuralFile) : Type 0 where
  pub name : file.entity.name ≡ n.name
  pub ports : flat_map ports_of file.entity.ports ≡ n.ports
  pub models : map (λ c. c.name) (components_of file.declarations) ≡ used_models n.instances
  pub pins : All (λ c. flat_map ports_of c.ports ≡ map port_of (pins_named table c.name)) (components_of file.declarations)
  pub labels : map (λ i. i.label) file.instances ≡ map (λ i. i.name) n.instances
  pub instances : map (λ i. i.component) file.instances ≡ map (λ i. i.model) n.instances
  pub joined : map (λ i. map pin_name i.associations) file.instances ≡ map (λ i. i.pins) n.instances
  pub nets : (a b : Terminal) (x y : Name) (j k : ℕ) → Joins file a x → Joins file b y → HasClass n a j → HasClass n b k → (x ≡ y) ↔ (j ≡ k)
  pub to_ports : (a : Terminal) (p x : Name) (j k : ℕ) → Joins file a x → HasClass n a j → HasClass n (port p) k → (x ≡ p) ↔ (j ≡ k)

-- ---- limits

-- a name of at most 64 bytes
abbrev pub IsShort : List ℕ → Type 0
IsShort text = length text ≤ 64

-- the number of a bit has 32 bits
abbrev pub IsSmall : Option ℕ → Type 0
IsSmall None = Unit {0}
IsSmall (Some k) = k < 2 ^ 32

abbrev pub IsSmallPort : Port → Type 0
IsSmallPort p = IsShort p.name.text × IsSmall p.name.bit

-- how many pins these models have
abbrev pub pin_count : List ModelPins → List (List ℕ) → ℕ
pin_count table models = length (flat_map (pins_named table) models)

-- Names have at most 64 bytes, numbers of bits are below 2 ^ 32, and the bits that are declared are within the limit: those of the
-- ports, of the pins of each model once, and of the signals, one for each class without a port.
pub record IsWithinLimits (n : Netlist) (table : List ModelPins) : Type 0 where
  pub name : IsShort n.name
  pub ports : All IsSmallPort n.ports
  pub instances : All (λ i. IsShort i.name × IsShort i.model) n.instances
  pub pins : All (λ i. All (λ p. IsSmallPort (port_of p)) (pins_named table i.model)) n.instances
  pub bits : length n.ports + pin_count table (used_models n.instances) + (n.count - length (port_nets n)) ≤ BITS

-- no two ports have one class
abbrev pub PortsAreApart : Netlist → Type 0
PortsAreApart n = (a b : Name) (k : ℕ) → HasClass n (port a) k → HasClass n (port b) k → a ≡ b

-- Where the names of a netlist can be written, the text has no place without a token, and its tokens are a sentence of the grammar
-- of structural texts, whose value is this one.
abbrev pub WrittenIsASentence : Type 0
WrittenIsASentence =
    (n : Netlist) (table : List ModelPins) → IsNetlist n → Fits n table → PinsCanBeWritten table → CanBeNamed n → IsWithinLimits n table
    → (refusal_in (text_of (layout n table)) ≡ None) × IsStructure (tokens_in (text_of (layout n table))) (file_of n table)

-- And where no two ports have one class, that value says the netlist.
abbrev pub WrittenSaysTheNetlist : Type 0
WrittenSaysTheNetlist =
    (n : Netlist) (table : List ModelPins) → IsNetlist n → Fits n table → PinsCanBeWritten table → CanBeNamed n → IsWithinLimits n table
    → PortsAreApart n → Says n table (file_of n table)
