-- The classes by numbers are those of the definition.
use Rattle.std.proofs.Common.{◌≡◌, ◌≢◌, ℕ, ◌+◌, List, [], ◌∷◌, ◌++◌, map, drop, length, Some, None, refl, sym, ap, ◌∙◌}
use Rattle.std.specs.List.{flat_map}
use Rattle.std.proofs.lemmas.List.{map-append}
use Rattle.std.proofs.lemmas.Option.{same_Some}
use Rattle.vlsi_base.specs.declared.name.Name.{Name}
use Rattle.vlsi_base.specs.declared.name.Port.{Port}
use Rattle.vlsi_base.specs.declared.name.Terminal.{Terminal}
use Rattle.vlsi_base.specs.Member.{In, here, there, AllDifferent}
use Rattle.machine_core.specs.Machine.{names_of}
use Rattle.cell_model.specs.Cell.{cell_inputs}
use Rattle.cell_pins.specs.Pins.{all_ports}
use Rattle.net_core.specs.Netlist.{Instance, Netlist, IsNetlist, port, pin_of, pins_of}
use Rattle.scan_theory.specs.Gates.{Gate as TheoryGate, gate_instance, gate_class}
use Rattle.scan_theory.specs.Scan.{on_vdd, on_vss, Cells, Stage, gates, fed, old_class, scan_class}
use Rattle.scan_theory.proofs.Chain.{other_told, gate_told}
use Rattle.scan_checks.specs.declared.cells.Parts.{Parts}
use Rattle.scan_checks.specs.declared.registers.Register.{Register}
use Rattle.scan_checks.specs.Cells.{IsPartOf, ArePartsOf}
use Rattle.scan_build.specs.Sketched.{instance_by}
use Rattle.scapin.specs.declared.gates.Gate.{Gate}
use Rattle.scapin.specs.declared.gates.Gate.TheVariants as gate
use Rattle.scapin.specs.Gates.{gate_of}
use Rattle.scapin.specs.Classes.{lines_of, line_class, moved, part_for, pin_class, gate_classes}
use Rattle.scapin.specs.Inserted.{gate_entry}
use Rattle.scapin.proofs.Moved.{all_moved}
use Rattle.scapin.proofs.Staged.{AreMatched}

map_in : {A B : Type 0} (f g : A → B) (xs : List A) → ((x : A) → In x xs → f x ≡ g x) → map f xs ≡ map g xs
map_in f g [] same = refl
map_in {A} {B} f g (x ∷ xs) same = ap (λ (y : B). y ∷ map f xs) (same x here) ∙ ap (λ (ys : List B). g x ∷ ys) (map_in f g xs (λ y h. same y (there h)))

map_map : {A B C : Type 0} (f : A → B) (g : B → C) (xs : List A) → map g (map f xs) ≡ map (λ x. g (f x)) xs
map_map f g [] = refl
map_map {A} {B} {C} f g (x ∷ xs) = ap (λ (ys : List C). g (f x) ∷ ys) (map_map f g xs)

flat_in : {A B : Type 0} (f g : A → List B) (xs : List A) → ((x : A) → In x xs → f x ≡ g x) → flat_map f xs ≡ flat_map g xs
flat_in f g [] same = refl
flat_in {A} {B} f g (x ∷ xs) same = ap (λ (ys : List B). ys ++ flat_map f xs) (same x here) ∙ ap (λ (ys : List B). g x ++ ys) (flat_in f g xs (λ y h. same y (there h)))

map_flat : {A B C : Type 0} (f : A → List B) (g : B → C) (xs : List A) → map g (flat_map f xs) ≡ flat_map (λ x. map g (f x)) xs
map_flat f g [] = refl
map_flat {A} {B} {C} f g (x ∷ xs) = map-append g (f x) (flat_map f xs) ∙ ap (λ (ys : List C). map g (f x) ++ ys) (map_flat f g xs)

flat_by : {A B C : Type 0} (h : A → B) (f : B → List C) (xs : List A) → flat_map f (map h xs) ≡ flat_map (λ x. f (h x)) xs
flat_by h f [] = refl
flat_by {A} {B} {C} h f (x ∷ xs) = ap (λ (ys : List C). f (h x) ++ ys) (flat_by h f xs)

drop_ports : (ports : List Port) (f : Terminal → ℕ) (ts : List Terminal) → drop (length ports) (map f (map (λ (p : Port). port p.name) ports ++ ts)) ≡ map f ts
drop_ports [] f ts = refl
drop_ports (p ∷ ports) f ts = drop_ports ports f ts

-- ---- ports

pub ports_told : (n : Netlist) (cells : Cells) (stages : List Stage) (many : ℕ) (ports : List Port) → many ≡ length stages
    → map (λ p. line_class n (lines_of n many) p.name) ports ≡ map (scan_class n cells stages) (map (λ (p : Port). port p.name) ports)
ports_told n cells stages many ports same =
    map_in (λ p. line_class n (lines_of n many) p.name) (λ p. scan_class n cells stages (port p.name)) ports (λ p h. each p.name)
    ∙ sym (map_map (λ (p : Port). port p.name) (scan_class n cells stages) ports) where
      each : (name : Name) → line_class n (lines_of n many) name ≡ scan_class n cells stages (port name)
      each name =
          ap (λ (k : ℕ). line_class n (lines_of n k) name) same
          ∙ sym (other_told (on_vdd n) (on_vss n) (old_class n stages) (gates n cells stages) (port name) (λ g g_in e. let never : None ≡ Some g.name = e in absurd cc))

-- ---- pins of the given instances

module _ (n : Netlist) (sound : IsNetlist n) (cells : Cells) (stages : List Stage) (apart : (i : Instance) → In i n.instances → (g : TheoryGate) → In g (gates n cells stages) → i.name ≢ g.name) where
  old_pins : (is : List Instance) → ((i : Instance) → In i is → In i n.instances) → map (fed n 0 stages) (flat_map pins_of is) ≡ map (scan_class n cells stages) (flat_map pins_of is)
  old_pins is inside =
      map_flat pins_of (fed n 0 stages) is
      ∙ flat_in (λ i. map (fed n 0 stages) (pins_of i)) (λ i. map (scan_class n cells stages) (pins_of i)) is (λ i h.
      map_map (pin_of i.name) (fed n 0 stages) i.pins
      ∙ map_in (λ pin. fed n 0 stages (pin_of i.name pin)) (λ pin. scan_class n cells stages (pin_of i.name pin)) i.pins (λ pin j. sym (told i (inside i h) pin))
      ∙ sym (map_map (pin_of i.name) (scan_class n cells stages) i.pins))
      ∙ sym (map_flat pins_of (scan_class n cells stages) is) where
        told : (i : Instance) → In i n.instances → (pin : Name) → scan_class n cells stages (pin_of i.name pin) ≡ fed n 0 stages (pin_of i.name pin)
        told i i_in pin = other_told (on_vdd n) (on_vss n) (old_class n stages) (gates n cells stages) (pin_of i.name pin)
            (λ g g_in e. apart i i_in g g_in (same_Some i.name g.name e))

  pub pins_told : (rs : List Register) → AreMatched n rs stages → AllDifferent (map (λ s. s.name) stages)
      → drop (length n.ports) (moved n.count 0 rs n.classes) ≡ map (scan_class n cells stages) (flat_map pins_of n.instances)
  pins_told rs matched names =
      ap (drop (length n.ports)) (all_moved n sound rs stages matched names)
      ∙ drop_ports n.ports (fed n 0 stages) (flat_map pins_of n.instances)
      ∙ old_pins n.instances (λ i h. h)

-- ---- pins of gates

part_of : (cells : Cells) (parts : Parts) (n : Netlist) (g : Gate) → ArePartsOf cells parts → IsPartOf (gate_of n cells g).cell (part_for parts g)
part_of cells parts n (gate.Inverts number input) are = are.inverter
part_of cells parts n (gate.Nands number first second) are = are.nand

gate_pin : (n : Netlist) (cells : Cells) (many : ℕ) (inputs : List Name) (g : Gate) (pin : Name) → inputs ≡ cell_inputs (gate_of n cells g).cell
    → pin_class (lines_of n many) inputs g pin ≡ gate_class (on_vdd n) (on_vss n) (gate_of n cells g) pin
gate_pin n cells many inputs (gate.Inverts number input) pin are = ap (λ (ns : List Name). pin_class (lines_of n many) ns (gate.Inverts number input) pin) are
gate_pin n cells many inputs (gate.Nands number first second) pin are = ap (λ (ns : List Name). pin_class (lines_of n many) ns (gate.Nands number first second) pin) are

pub entry_is : (n : Netlist) (cells : Cells) (parts : Parts) → ArePartsOf cells parts → (g : Gate) → instance_by (gate_entry (part_for parts g) g) ≡ gate_instance (gate_of n cells g)
entry_is n cells parts are g = made g (part_of cells parts n g are) where
  with_model : (name : List ℕ) (model other : List ℕ) (pins others : List Name) → model ≡ other → pins ≡ others
      → ◌≡◌ {A = Instance} (record { name = name; model = model; pins = pins }) (record { name = name; model = other; pins = others })
  with_model name model other pins others e f =
      let make : List ℕ → List Name → Instance = λ m ps. record { name = name; model = m; pins = ps } in
      ap (λ (m : List ℕ). make m pins) e ∙ ap (make other) f

  made : (g : Gate) → IsPartOf (gate_of n cells g).cell (part_for parts g) → instance_by (gate_entry (part_for parts g) g) ≡ gate_instance (gate_of n cells g)
  made (gate.Inverts number input) is = with_model _ parts.inverter.model cells.inverter.name parts.inverter.pins (names_of (all_ports cells.inverter)) is.model is.pins
  made (gate.Nands number first second) is = with_model _ parts.nand.model cells.nand.name parts.nand.pins (names_of (all_ports cells.nand)) is.model is.pins

pub entries_are : (n : Netlist) (cells : Cells) (parts : Parts) → ArePartsOf cells parts → (gs : List Gate)
    → map instance_by (map (λ g. gate_entry (part_for parts g) g) gs) ≡ map gate_instance (map (gate_of n cells) gs)
entries_are n cells parts are gs =
    map_map (λ g. gate_entry (part_for parts g) g) instance_by gs
    ∙ map_in (λ g. instance_by (gate_entry (part_for parts g) g)) (λ g. gate_instance (gate_of n cells g)) gs (λ g h. entry_is n cells parts are g)
    ∙ sym (map_map (gate_of n cells) gate_instance gs)

module _ (n : Netlist) (cells : Cells) (parts : Parts) (are : ArePartsOf cells parts) (stages : List Stage) (many : ℕ)
    (once : AllDifferent (map (λ (g : TheoryGate). g.name) (gates n cells stages))) where
  one_gate : (g : Gate) → In (gate_of n cells g) (gates n cells stages)
      → gate_classes (lines_of n many) parts g ≡ map (scan_class n cells stages) (pins_of (gate_instance (gate_of n cells g)))
  one_gate g g_in =
      let is = part_of cells parts n g are in
      ap (map (pin_class (lines_of n many) (part_for parts g).inputs g)) is.pins
      ∙ map_in (pin_class (lines_of n many) (part_for parts g).inputs g) (λ pin. scan_class n cells stages (pin_of (gate_of n cells g).name pin)) (names_of (all_ports (gate_of n cells g).cell)) (λ pin h.
      gate_pin n cells many (part_for parts g).inputs g pin is.inputs
      ∙ sym (gate_told (on_vdd n) (on_vss n) (old_class n stages) (gates n cells stages) once (gate_of n cells g) g_in pin))
      ∙ sym (map_map (pin_of (gate_of n cells g).name) (scan_class n cells stages) (names_of (all_ports (gate_of n cells g).cell)))

  pub gates_told : (gs : List Gate) → ((g : Gate) → In g gs → In (gate_of n cells g) (gates n cells stages))
      → flat_map (gate_classes (lines_of n many) parts) gs ≡ map (scan_class n cells stages) (flat_map pins_of (map gate_instance (map (gate_of n cells) gs)))
  gates_told gs inside =
      flat_in (gate_classes (lines_of n many) parts) (λ g. map (scan_class n cells stages) (pins_of (gate_instance (gate_of n cells g)))) gs (λ g h. one_gate g (inside g h))
      ∙ sym (flat_by (gate_of n cells) (λ g. map (scan_class n cells stages) (pins_of (gate_instance g))) gs)
      ∙ sym (flat_by gate_instance (λ i. map (scan_class n cells stages) (pins_of i)) (map (gate_of n cells) gs))
      ∙ sym (map_flat pins_of (scan_class n cells stages) (map gate_instance (map (gate_of n cells) gs)))
