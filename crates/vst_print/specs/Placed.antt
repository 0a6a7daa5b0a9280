-- The value of a structural text that is laid out: what stands there, with each line on which it stands.
use Rattle.std.specs.Prelude.{ℕ, List, [], ◌∷◌, ◌++◌, map, Option, None, Some}
use Rattle.vlsi_base.specs.declared.name.Name.{Name}
use Rattle.vlsi_base.specs.declared.entity.NewName.{NewName}
use Rattle.vlsi_base.specs.declared.entity.SignalGroup.{SignalGroup}
use Rattle.source_checks.specs.declared.statement.Selection.{Selection}
use Rattle.source_checks.specs.declared.statement.Selection.TheVariants as selection
use Rattle.source_checks.specs.declared.statement.Target.{Target}
use Rattle.spell_theory.specs.Layout.{line_behind, line_of}
use Rattle.vhdl_print.specs.Outline.{Outline, placed_type, placed_port, placed_ports, placed_entity, entity_layout}
use Rattle.vst_text.specs.declared.file.Component.{Component}
use Rattle.vst_text.specs.declared.file.Declaration.{Declaration}
use Rattle.vst_text.specs.declared.file.Declaration.TheVariants as declares
use Rattle.vst_text.specs.declared.file.PinName.{PinName}
use Rattle.vst_text.specs.declared.file.Association.{Association}
use Rattle.vst_text.specs.declared.file.InstanceStatement.{InstanceStatement}
use Rattle.vst_text.specs.declared.file.StructuralFile.{StructuralFile}
use Rattle.net_core.specs.declared.pins.ModelPins.{ModelPins}
use Rattle.net_core.specs.Netlist.{Netlist}
use Rattle.vst_print.specs.Structure.{Mapping, OneInstance, Structure, component_layout, components_layout, signals_layout, mappings_layout, instance_layout, head_layout, begin_layout}
use Rattle.vst_print.specs.Written.{structure_of}

-- the component that begins on this line; its first port stands two lines below
abbrev pub placed_component : ℕ → Outline → Component
placed_component line c =
    let l = line_behind (line_behind line) in
    record { line = line; name = c.name; ports = placed_port l c.first ∷ placed_ports l c.others }

abbrev pub placed_components : ℕ → List Outline → List Declaration
placed_components line [] = []
placed_components line (c ∷ cs) = declares.Component (placed_component line c) ∷ placed_components (line_of line (component_layout c)) cs

-- a signal of one bit on its line
abbrev pub placed_signal : ℕ → List ℕ → SignalGroup
placed_signal line name = record { line = line; names = record { text = name; line = line } ∷ []; kind = placed_type line None }

-- signals, the first on this line
abbrev pub placed_signals : ℕ → List (List ℕ) → List Declaration
placed_signals line [] = []
placed_signals line (s ∷ ss) = declares.Signals (placed_signal line s) ∷ placed_signals (line_behind line) ss

abbrev pub placed_pin : ℕ → Name → PinName
placed_pin line pin = record { text = pin.text; bit = pin.bit; line = line }

-- a whole signal, or one bit
abbrev pub selected : Option ℕ → Selection
selected None = selection.Whole
selected (Some k) = selection.Bit k

abbrev pub placed_net : ℕ → Name → Target
placed_net line net = record { name = net.text; line = line; selection = selected net.bit }

abbrev pub placed_mapping : ℕ → Mapping → Association
placed_mapping line m = record { pin = placed_pin line m.pin; net = placed_net line m.net }

-- the further pins, the first on the line behind this one
abbrev pub placed_mappings : ℕ → List Mapping → List Association
placed_mappings line [] = []
placed_mappings line (m ∷ ms) = placed_mapping (line_behind line) m ∷ placed_mappings (line_behind line) ms

-- the instance that begins on this line; its first pin stands two lines below
abbrev pub placed_instance : ℕ → OneInstance → InstanceStatement
placed_instance line i =
    let l = line_behind (line_behind line) in
    record {
      label = i.label;
      line = line;
      component = i.model;
      component_line = line;
      associations = placed_mapping l i.first ∷ placed_mappings l i.others;
      end_line = line_of l (mappings_layout i.others);
    }

abbrev pub placed_instances : ℕ → List OneInstance → List InstanceStatement
placed_instances line [] = []
placed_instances line (i ∷ is) = placed_instance line i ∷ placed_instances (line_of line (instance_layout i)) is

-- the text that begins on this line
abbrev pub placed_structure : ℕ → Structure → StructuralFile
placed_structure line s =
    let declared = line_of (line_of line (entity_layout s.entity)) (head_layout s.entity.name) in
    let signals = line_of declared (components_layout s.components) in
    let behind = line_of (line_of signals (signals_layout s.signals)) begin_layout in
    record {
      entity = placed_entity line s.entity;
      declarations = placed_components declared s.components ++ placed_signals signals s.signals;
      instances = placed_instances behind s.instances;
    }

-- what the text of a netlist says
abbrev pub file_of : Netlist → List ModelPins → StructuralFile
file_of n table = placed_structure 1 (structure_of n table)
