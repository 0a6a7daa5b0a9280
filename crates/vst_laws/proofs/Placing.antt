-- The instances of the text of a netlist: their maps have no fault.
use Rattle.std.proofs.Common.{◌≡◌, inl, inr, ℕ, ◌+◌, ◌<◌, true, List, [], ◌∷◌, map, length, drop, Option, None, Some, refl, sym, ap, subst, ◌∙◌}
use Rattle.vlsi_base.specs.declared.name.Name.{Name}
use Rattle.vlsi_base.specs.declared.name.Port.{Port}
use Rattle.vlsi_base.specs.Member.{In, here, there, AllDifferent}
use Rattle.vlsi_base.specs.Name.{is_supply}
use Rattle.vlsi_base.specs.Names.{scalar}
use Rattle.machine_core.proofs.Values.{In-map}
use Rattle.vlsi_model.proofs.Members.{In-cases, In-map_back}
use Rattle.vlsi_model.proofs.Assembly.{In-permutation}
use Rattle.vlsi_model.proofs.Sorting.{In-at}
use Rattle.source_checks.specs.Symbols.{find}
use Rattle.spell_theory.specs.Layout.{line_behind, line_of}
use Rattle.vhdl_print.specs.Outline.{entity_layout}
use Rattle.net_core.specs.declared.pins.ModelPin.{ModelPin}
use Rattle.net_core.specs.declared.pins.ModelPins.{ModelPins}
use Rattle.net_core.specs.Netlist.{Instance, Netlist, pin_of, AreInOrder, HasClass}
use Rattle.net_core.specs.Checks.{pins_named}
use Rattle.vst_text.specs.declared.file.Component.{Component}
use Rattle.vst_text.specs.declared.file.Association.{Association}
use Rattle.vst_text.specs.declared.file.InstanceStatement.{InstanceStatement}
use Rattle.vst_print.specs.Groups.{outline}
use Rattle.vst_print.specs.Structure.{Mapping, OneInstance, components_layout, signals_layout, begin_layout, head_layout, instance_layout}
use Rattle.vst_print.specs.Nets.{signal_nets, net_names}
use Rattle.vst_print.specs.Written.{used_models, component_of, instances_with}
use Rattle.vst_print.proofs.Runs.{stands_drop}
use Rattle.vst_print.specs.Placed as placed
use Rattle.vst_print.specs.Placed.{placed_mapping, placed_mappings, placed_instance, placed_instances, file_of}
use Rattle.vst_print.specs.Says.{bit_of, pin_name, net_name, Joins}
use Rattle.vst_print.proofs.Saying as saying
use Rattle.vst_io.specs.Nets.{nets, components, port_bits, pins, pin_selection}
use Rattle.vst_io.specs.Faults.{is_net_port}
use Rattle.vst_io.proofs.Places.{stands_in, in_stands}
use Rattle.vst_laws.specs.Again.{CanBeSaid, CanBeRead}
use Rattle.vst_laws.proofs.Ordered.{different_ordered}
use Rattle.vst_laws.proofs.Symbols.{found, port_is}
use Rattle.vst_laws.proofs.Modelled.{is_named, scalar_alone}
use Rattle.vst_laws.proofs.Shown.{IsPlaced, model_names}
use Rattle.vst_laws.proofs.Once.{all_in, once_in}
use Rattle.vst_laws.proofs.Declared.{same_components}
use Rattle.vst_laws.proofs.Made.{IsMade}
use Rattle.vst_laws.proofs.Supplied.{supply_name, port_there, pin_there}

-- ---- statements and instances

-- the instance that a statement is of
pub record IsOf (is : List Instance) (s : InstanceStatement) : Type 0 where
  pub instance : Instance
  pub listed : In instance is
  pub label : s.label ≡ instance.name
  pub model : s.component ≡ instance.model
  pub pins_are : map pin_name s.associations ≡ instance.pins

pub is_of : (ss : List InstanceStatement) (is : List Instance) → map (λ s. s.label) ss ≡ map (λ i. i.name) is → map (λ s. s.component) ss ≡ map (λ i. i.model) is
    → map (λ s. map pin_name s.associations) ss ≡ map (λ i. i.pins) is → (s : InstanceStatement) → In s ss → IsOf is s
is_of [] is e f g s h = elim h [ ]
is_of (x ∷ ss) [] e f g s h = absurd cc
is_of (x ∷ ss) (i ∷ is) e f g s h =
    let label : x.label ≡ i.name = cc in
    let model : x.component ≡ i.model = cc in
    let pins_are : map pin_name x.associations ≡ i.pins = cc in
    let labels : map (λ s. s.label) ss ≡ map (λ i. i.name) is = cc in
    let models : map (λ s. s.component) ss ≡ map (λ i. i.model) is = cc in
    let all_pins : map (λ s. map pin_name s.associations) ss ≡ map (λ i. i.pins) is = cc in
    elim (In-cases s x ss h) [
      | inl same ↦ subst (λ (y : InstanceStatement). IsOf (i ∷ is) y) same (record { instance = i; listed = here; label = label; model = model; pins_are = pins_are })
      | inr g ↦ let r = is_of ss is labels models all_pins s g in record { instance = r.instance; listed = there r.listed; label = r.label; model = r.model; pins_are = r.pins_are }
    ]

-- ---- associations

pub record IsWrittenMapping (a : Association) : Type 0 where
  pub line : ℕ
  pub mapping : Mapping
  pub is : a ≡ placed_mapping line mapping

mapping_in : (line : ℕ) (ms : List Mapping) (a : Association) → In a (placed_mappings line ms) → IsWrittenMapping a
mapping_in line [] a h = elim h [ ]
mapping_in line (m ∷ ms) a h = elim (In-cases a (placed_mapping (line_behind line) m) (placed_mappings (line_behind line) ms) h) [
  | inl e ↦ record { line = line_behind line; mapping = m; is = sym e }
  | inr g ↦ mapping_in (line_behind line) ms a g
]

mapping_of : (line : ℕ) (i : OneInstance) (a : Association) → In a (placed_instance line i).associations → IsWrittenMapping a
mapping_of line i a h = elim (In-cases a (placed_mapping (line_behind (line_behind line)) i.first) (placed_mappings (line_behind (line_behind line)) i.others) h) [
  | inl e ↦ record { line = line_behind (line_behind line); mapping = i.first; is = sym e }
  | inr g ↦ mapping_in (line_behind (line_behind line)) i.others a g
]

statement_mapping : (line : ℕ) (is : List OneInstance) (s : InstanceStatement) (a : Association) → In s (placed_instances line is) → In a s.associations → IsWrittenMapping a
statement_mapping line [] s a h g = elim h [ ]
statement_mapping line (i ∷ is) s a h g = elim (In-cases s (placed_instance line i) (placed_instances (line_of line (instance_layout i)) is) h) [
  | inl e ↦ mapping_of line i a (subst (λ (x : InstanceStatement). In a x.associations) (sym e) g)
  | inr k ↦ statement_mapping (line_of line (instance_layout i)) is s a k g
]

bit_selection : (b : Option ℕ) → placed.selected b ≡ pin_selection (bit_of (placed.selected b))
bit_selection None = refl
bit_selection (Some k) = refl

one_selected : (a : Association) → IsWrittenMapping a → a.net.selection ≡ pin_selection (bit_of a.net.selection)
one_selected a w = subst (λ (x : Association). x.net.selection ≡ pin_selection (bit_of x.net.selection)) (sym w.is) (bit_selection w.mapping.net.bit)

-- the net of a pin has a name
named_net : (n : Netlist) (table : List ModelPins) → IsMade n table → (s : InstanceStatement) → In s (file_of n table).instances → (a : Association) → In a s.associations → In (net_name a) (net_names n)
named_net n table m s h a g =
    let cs = drop (length n.ports) n.classes in
    let p = in_stands (file_of n table).instances s h in
    let r = saying.found (net_names n) b n.instances cs p.0 s a m.facts.ready m.facts.pins p.1 (in_stands s.associations a g) in
    let at = stands_drop n.classes (length n.ports) r.place r.class r.here in
    let less = all_in (λ k. k < length (net_names n)) n.classes m.facts.inside r.class (stands_in n.classes (length n.ports + r.place) r.class at) in
    subst (λ (x : Name). In x (net_names n)) (sym r.is_name) (In-at (net_names n) r.class (scalar []) less) where
      d : ℕ
      d = line_of (line_of 1 (entity_layout (outline n.name n.ports))) (head_layout (outline n.name n.ports).name)

      b : ℕ
      b = line_of (line_of (line_of d (components_layout (map (component_of table) (used_models n.instances)))) (signals_layout (signal_nets n))) begin_layout

-- ---- one instance

pub statement_of : (n : Netlist) (table : List ModelPins) → IsMade n table → (s : InstanceStatement) → In s (file_of n table).instances → IsOf n.instances s
statement_of n table m s h = is_of (file_of n table).instances n.instances m.says.labels m.says.instances m.says.joined s h

pub is_placed : (n : Netlist) (table : List ModelPins) → CanBeSaid n table → IsMade n table → (s : InstanceStatement) → In s (file_of n table).instances → IsPlaced table (file_of n table) s
is_placed n table r m s h = record {
  declared = declared;
  pins_are = pins_are;
  once = once;
  shown = λ a g. record {
    pin = subst (λ (ns : List Name). In (pin_name a) ns) pins_are (In-map pin_name a s.associations g);
    net = m.names (net_name a) (named_net n table m s h a g);
    one = one_selected a (statement_mapping b (instances_with (net_names n) n.instances (drop (length n.ports) n.classes)) s a h g);
  };
} where
  d : ℕ
  d = line_of (line_of 1 (entity_layout (outline n.name n.ports))) (head_layout (outline n.name n.ports).name)

  b : ℕ
  b = line_of (line_of (line_of d (components_layout (map (component_of table) (used_models n.instances)))) (signals_layout (signal_nets n))) begin_layout

  o : IsOf n.instances s
  o = statement_of n table m s h

  used : In o.instance.model (used_models n.instances)
  used = once_in (map (λ (i : Instance). i.model) n.instances) o.instance.model (In-map (λ (i : Instance). i.model) o.instance n.instances o.listed)

  declared : In s.component (map (λ c. c.name) (components (file_of n table).declarations))
  declared =
      subst (λ (cs : List Component). In s.component (map (λ c. c.name) cs)) (sym (same_components (file_of n table).declarations))
      (subst (λ (ts : List (List ℕ)). In s.component ts) (sym m.says.models) (subst (λ (t : List ℕ). In t (used_models n.instances)) (sym o.model) used))

  fits : o.instance.pins ≡ map (λ p. p.name) (pins_named table o.instance.model)
  fits = all_in (λ (i : Instance). i.pins ≡ map (λ p. p.name) (pins_named table i.model)) n.instances r.fits.pins o.instance o.listed

  pins_are : map pin_name s.associations ≡ map (λ p. p.name) (pins_named table s.component)
  pins_are = o.pins_are ∙ fits ∙ ap (λ (t : List ℕ). map (λ (p : ModelPin). p.name) (pins_named table t)) (sym o.model)

  order : AreInOrder (map (λ p. p.name) (pins_named table o.instance.model))
  order = subst (λ (ns : List Name). AreInOrder ns) fits (all_in (λ (i : Instance). AreInOrder i.pins) n.instances r.sound.pins o.instance o.listed)

  once : AllDifferent (map pin_name s.associations)
  once = subst (λ (ns : List Name). AllDifferent ns) (sym (o.pins_are ∙ fits)) (different_ordered (λ (p : ModelPin). p.name) (pins_named table o.instance.model) order)

-- ---- supplies

port_found : (n : Netlist) (table : List ModelPins) → IsMade n table → (x : Name) → In x (map (λ p. p.name) n.ports) → is_net_port (find (nets (file_of n table)) x.text) ≡ true
port_found n table m x h =
    let p = In-map_back (λ (q : Port). q.name) x n.ports h in
    let i = port_is (nets (file_of n table)) p.0 (In-permutation n.ports (port_bits (nets (file_of n table))) p.0 m.bits p.1) in
    ap (λ (y : Name). is_net_port (find (nets (file_of n table)) y.text)) (sym p.2) ∙ ap is_net_port (found (nets (file_of n table)) p.0.name m.apart i.name) ∙ i.port

pub supplied : (n : Netlist) (table : List ModelPins) → CanBeRead n table → IsMade n table → (s : InstanceStatement) → In s (file_of n table).instances → IsPlaced table (file_of n table) s
    → (a : Association) → In a s.associations → is_supply a.pin.text ≡ true → (a.net.name ≡ a.pin.text) × (is_net_port (find (nets (file_of n table)) a.net.name) ≡ true)
supplied n table r m s h placed a g supply =
    let o = statement_of n table m s h in
    let i = o.instance in
    let x = scalar a.pin.text in
    let tied = r.condition.tied i x (in_stands n.instances i o.listed) (supply_name a.pin.text supply) in
    let among : In x (map pin_name s.associations) = subst (λ (ns : List Name). In x ns) (sym o.pins_are) (pin_there n r.said.sound i o.listed x tied.class tied.of_pin) in
    let own : In (pin_name a) (map pin_name s.associations) = In-map pin_name a s.associations g in
    let c = is_named (components (file_of n table).declarations) s.component placed.declared in
    let model = m.models c.component c.listed in
    let has = model_names table c.component s.component c.named model in
    let one = has x (subst (λ (ns : List Name). In x ns) placed.pins_are among) in
    let two = has (pin_name a) (subst (λ (ns : List Name). In (pin_name a) ns) placed.pins_are own) in
    let none : a.pin.bit ≡ None = scalar_alone (pins c.component) x (pin_name a) model.apart one two refl refl in
    let pin : x ≡ pin_name a = ap (λ (b : Option ℕ). made a.pin.text b) (sym none) in
    let joins : Joins (file_of n table) (pin_of s.label (pin_name a)) (net_name a) = record {
      statement = s;
      listed = in_stands (file_of n table).instances s h;
      association = a;
      there = in_stands s.associations a g;
      pin_is = refl;
      net_is = refl;
    } in
    let at = subst (λ (y : Name). HasClass n (pin_of s.label y) tied.class) pin (subst (λ (t : List ℕ). HasClass n (pin_of t x) tied.class) (sym o.label) tied.of_pin) in
    let net : net_name a ≡ x = (m.says.to_ports (pin_of s.label (pin_name a)) x (net_name a) tied.class tied.class joins at tied.of_port).1 refl in
    let text : a.net.name ≡ a.pin.text = ap (λ (y : Name). y.text) net in
    (text, ap (λ (t : List ℕ). is_net_port (find (nets (file_of n table)) t)) text ∙ port_found n table m x (port_there n x tied.class tied.of_port)) where
      made : List ℕ → Option ℕ → Name
      made t b = record { text = t; bit = b }
