-- The netlist of a draft that a text gives.
use Rattle.std.proofs.Common.{◌≡◌, ◌↔◌, ℕ, ◌<◌, List, [], ◌∷◌, map, length, None, sym, ap, subst, ◌∙◌, arith}
use Rattle.std.specs.List.{All, flat_map}
use Rattle.std.specs.List.Sorted.{IsPermutation}
use Rattle.std.proofs.lemmas.List.Sorted.{IsPermutation-sym}
use Rattle.vlsi_base.specs.declared.name.Name.{Name}
use Rattle.vlsi_base.specs.declared.name.Port.{Port}
use Rattle.vlsi_base.specs.declared.name.Terminal.{Terminal}
use Rattle.vlsi_base.specs.Member.{In, here, AllDifferent}
use Rattle.machine_core.proofs.Values.{In-map}
use Rattle.vlsi_base.specs.NamePlaces.{name_of}
use Rattle.vlsi_model.proofs.Members.{In-map_back}
use Rattle.vlsi_model.proofs.Bits.{different_texts}
use Rattle.net_core.specs.declared.pins.ModelPin.{ModelPin}
use Rattle.net_core.specs.declared.pins.ModelPins.{ModelPins}
use Rattle.net_core.specs.Places.{IsThere}
use Rattle.net_core.specs.Netlist.{Instance, Netlist, IsNetlist, terminals_of}
use Rattle.net_core.specs.Joins.{Draft, Joined, IsFinished, draft_terminals}
use Rattle.net_core.specs.Checks.{pins_named}
use Rattle.vst_text.specs.declared.file.InstanceStatement.{InstanceStatement}
use Rattle.vst_text.specs.declared.file.StructuralFile.{StructuralFile}
use Rattle.vst_io.specs.Nets.{nets, pin_bits, pin_names, port_bits, instance_of, links}
use Rattle.vst_io.specs.Faults.{instance_faults, bad_maps, component_faults, first_label_again}
use Rattle.vst_io.specs.Checked.{IsChecked}
use Rattle.vst_io.specs.Drafts.{joins_of}
use Rattle.vst_io.specs.Text.{IsNetlistOf}
use Rattle.vst_io.proofs.Fine.{IsMapped, is_mapped, append_nothing, flat_nothing, map_twice, flat_in}
use Rattle.vst_io.proofs.Ports.{different_ports}
use Rattle.vst_io.proofs.Linked.{end_of, different_ends, end_there, different_labels, key}
use Rattle.vst_io.proofs.Classes.{stands_for_one, joined_same, same_joined}
use Rattle.vst_io.proofs.Condition.{all_from}

-- each instance of a checked text is mapped
pub all_mapped : (table : List ModelPins) (f : StructuralFile) → bad_maps table f ≡ [] → (i : InstanceStatement) → In i f.instances → IsMapped table f i
all_mapped table f e i h =
    let both = append_nothing (flat_map (component_faults table) f.declarations) (flat_map (instance_faults table f) f.instances) e in
    is_mapped table f i (flat_nothing (instance_faults table f) f.instances both.1 i h)

pub ports_apart : (table : List ModelPins) (f : StructuralFile) → IsChecked table f → AllDifferent (map key (port_bits (nets f)))
ports_apart table f checked = different_ports (nets f) (different_texts (nets f) checked.once)

-- the terminals of links are those of the draft
pub ends_there : (table : List ModelPins) (f : StructuralFile) (ports : List Port) (d : Draft) → IsChecked table f → IsPermutation (port_bits (nets f)) ports → d.ports ≡ ports → d.instances ≡ map (instance_of table) f.instances
    → All (λ l. IsThere (draft_terminals d) l.0) (links f)
ends_there table f ports d checked moved is_ports is_instances = all_from (λ (l : Terminal × Name). IsThere (draft_terminals d) l.0) (links f) (λ l h.
    let at = end_there table f ports (all_mapped table f checked.maps) moved l.0 (In-map end_of l (links f) h) in
    subst (λ (ps : List Port). IsThere (terminals_of ps d.instances) l.0) (sym is_ports) (subst (λ (is : List Instance). IsThere (terminals_of ports is) l.0) (sym is_instances) at))

pub is_netlist_of : (table : List ModelPins) (f : StructuralFile) (ports : List Port) (d : Draft) (n : Netlist) → IsChecked table f → first_label_again [] f.instances ≡ None → IsPermutation (port_bits (nets f)) ports
    → d.name ≡ f.entity.name → d.ports ≡ ports → d.instances ≡ map (instance_of table) f.instances → d.joins ≡ joins_of (links f) → IsFinished d n → IsNetlist n → IsNetlistOf table f n
is_netlist_of table f ports d n checked once moved is_name is_ports is_instances is_joins finished sound = record {
  sound = sound;
  name = finished.name ∙ is_name;
  ports = subst (λ (ps : List Port). IsPermutation ps (port_bits (nets f))) (sym (finished.ports ∙ is_ports)) (IsPermutation-sym (port_bits (nets f)) ports moved);
  instances = finished.instances ∙ is_instances;
  models = λ m. subst (λ (ms : List (List ℕ)). IsThere n.models m ↔ IsThere ms m) (ap (map (λ (i : Instance). i.model)) is_instances ∙ map_twice (λ (i : Instance). i.model) (instance_of table) f.instances) (finished.models m);
  classes = λ a b x y j k p q g h.
      let mapped = all_mapped table f checked.maps in
      let one = stands_for_one (links f) (different_ends table f mapped (different_labels f.instances once) (ports_apart table f checked)) in
      let two = subst (λ (js : List (Terminal × Terminal)). (j ≡ k) ↔ Joined js a b) is_joins (finished.classes a b j k g h) in (
        λ e. joined_same (links f) one (two.0 e) x y p q,
        λ e. two.1 (same_joined (links f) a b x p (subst (λ (z : Name). In (b, z) (links f)) (sym e) q)),
      );
}

some_in : {X : Type 0} (xs : List X) → 0 < length xs → (x : X) × In x xs
some_in [] h = absurd (omega arith)
some_in (x ∷ xs) h = (x, here)

in_some : {X : Type 0} (xs : List X) (x : X) → In x xs → 0 < length xs
in_some [] x h = elim h [ ]
in_some (y ∷ xs) x h = omega arith

-- what maps a pin has one
pub pins_some : (table : List ModelPins) (f : StructuralFile) (i : InstanceStatement) → IsMapped table f i → 0 < length i.associations → 0 < length (pins_named table i.component)
pins_some table f i m some =
    let a = some_in i.associations some in
    let b = some_in (pin_bits m.known a.0.pin) (m.fine.each a.0 a.1).some in
    let n : In (name_of a.0.pin.text b.0) (flat_map (pin_names m.known) i.associations) =
    flat_in (pin_names m.known) i.associations a.0 (name_of a.0.pin.text b.0) a.1 (In-map (name_of a.0.pin.text) b.0 (pin_bits m.known a.0.pin) b.1) in
    let p = In-map_back (λ (q : ModelPin). q.name) (name_of a.0.pin.text b.0) (pins_named table i.component) (m.fine.pins (name_of a.0.pin.text b.0) n) in
    in_some (pins_named table i.component) p.0 p.1
