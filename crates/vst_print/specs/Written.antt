-- A netlist as a structural text.
use Rattle.std.specs.Prelude.{ℕ, not, bytes_eq, List, [], ◌∷◌, map, filter, length, take, drop, slice_index_or}
use Rattle.vlsi_base.specs.declared.name.Name.{Name}
use Rattle.vlsi_base.specs.Names.{scalar}
use Rattle.spell_theory.specs.Layout.{Written}
use Rattle.vhdl_print.specs.Outline.{Outline}
use Rattle.net_core.specs.declared.pins.ModelPins.{ModelPins}
use Rattle.net_core.specs.Netlist.{Instance, Netlist}
use Rattle.net_core.specs.Checks.{pins_named}
use Rattle.net_right.specs.Writable.{port_of, IsBadMap}
use Rattle.vst_print.specs.declared.error.WriteError.{WriteError}
use Rattle.vst_print.specs.declared.error.WriteError.TheVariants as error
use Rattle.vst_print.specs.Groups.{outline}
use Rattle.vst_print.specs.Structure.{Mapping, OneInstance, Structure, structure_layout}
use Rattle.vst_print.specs.Nets.{signal_nets, net_names}

-- each text once, where it stands first
abbrev pub each_once : List (List ℕ) → List (List ℕ)
each_once [] = []
each_once (t ∷ ts) = t ∷ filter (λ u. not (bytes_eq t u)) (each_once ts)

-- the models that instances have, in the order in which these first have them
abbrev pub used_models : List Instance → List (List ℕ)
used_models instances = each_once (map (λ i. i.model) instances)

-- a model with its pins, by the table
abbrev pub component_of : List ModelPins → List ℕ → Outline
component_of table model = outline model (map port_of (pins_named table model))

-- pins, each with the name of its class
abbrev pub mapped : List Name → List Name → List ℕ → List Mapping
mapped nets [] classes = []
mapped nets (p ∷ ps) [] = []
mapped nets (p ∷ ps) (k ∷ classes) = record { pin = p; net = slice_index_or nets k (scalar []) } ∷ mapped nets ps classes

-- an instance with these pins; one without pins, which no netlist that is written has, as if it had a pin of no name
abbrev pub instance_with : Instance → List Mapping → OneInstance
instance_with i [] = record { label = i.name; model = i.model; first = record { pin = scalar []; net = scalar [] }; others = [] }
instance_with i (m ∷ ms) = record { label = i.name; model = i.model; first = m; others = ms }

-- instances, where these are the classes of their pins, one instance behind the other
abbrev pub instances_with : List Name → List Instance → List ℕ → List OneInstance
instances_with nets [] classes = []
instances_with nets (i ∷ is) classes =
    instance_with i (mapped nets i.pins (take (length i.pins) classes)) ∷ instances_with nets is (drop (length i.pins) classes)

-- the text of a netlist, by a table of the pins of its models
abbrev pub structure_of : Netlist → List ModelPins → Structure
structure_of n table = record {
  entity = outline n.name n.ports;
  components = map (component_of table) (used_models n.instances);
  signals = signal_nets n;
  instances = instances_with (net_names n) n.instances (drop (length n.ports) n.classes);
}

-- how a netlist is laid out
unfoldable pub layout : Netlist → List ModelPins → List Written
layout n table = structure_layout (structure_of n table)

-- why a netlist isn't written
abbrev pub IsWriteRefusal : Netlist → WriteError → Type 0
IsWriteRefusal n error.Memory = Unit {0}
IsWriteRefusal n error.BadMap = IsBadMap n
