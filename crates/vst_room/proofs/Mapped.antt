-- Pins that are no bits of vectors are no more than the associations that map them.
use Rattle.std.proofs.Common.{◌≡◌, suc, ◌≤◌, List, [], ◌∷◌, map, length, None, sym, ap, subst, ◌∙◌, arith, length-append}
use Rattle.std.specs.Prelude.{IsTrue}
use Rattle.std.specs.List.{flat_map}
use Rattle.std.proofs.lemmas.List.{length-map}
use Rattle.vlsi_base.specs.declared.name.Name.{Name}
use Rattle.vlsi_base.specs.Member.{In, here, there, AllDifferent}
use Rattle.vlsi_base.specs.Names.{scalar, comes_before}
use Rattle.vlsi_base.specs.NamePlaces.{name_of}
use Rattle.machine_core.proofs.Values.{In-map}
use Rattle.source_checks.specs.declared.symbol_table.Symbol.{Symbol}
use Rattle.vlsi_model.proofs.Members.{In-map_back}
use Rattle.vlsi_model.proofs.Counted.{no_more}
use Rattle.cell_model.proofs.Members.{place-In}
use Rattle.cell_pins.proofs.Ports.{before_itself}
use Rattle.net_core.specs.declared.pins.ModelPin.{ModelPin}
use Rattle.net_core.specs.declared.pins.ModelPins.{ModelPins}
use Rattle.net_core.specs.Netlist.{Instance, AreInOrder, pin_of, pins_of}
use Rattle.net_core.specs.Checks.{pins_named}
use Rattle.vst_text.specs.declared.file.Association.{Association}
use Rattle.vst_text.specs.declared.file.InstanceStatement.{InstanceStatement}
use Rattle.vst_text.specs.declared.file.StructuralFile.{StructuralFile}
use Rattle.vst_io.specs.Nets.{pin_bits, pin_names, instance_of}
use Rattle.vst_io.specs.Faults.{bad_maps}
use Rattle.vst_io.proofs.Fine.{IsMapped, in_flat}
use Rattle.vst_io.proofs.Drafted.{all_mapped}
use Rattle.vst_room.proofs.Tokens.{mapped}

pub different_names : (xs : List Name) → AreInOrder xs → AllDifferent xs
different_names [] h = tt
different_names (x ∷ xs) h = (
  λ i. let r = place-In x xs i in
      before_itself x (subst (λ (y : Name). IsTrue (comes_before x y)) (r.2 x) (h 0 (suc r.0) x (omega arith) (omega (arith, r.1)))),
  different_names xs (λ i j d low high. h (suc i) (suc j) d (omega (arith, low)) (omega (arith, high))),
)

-- what an association names before its arrow, without a bit
abbrev named : Association → Name
named a = scalar a.pin.text

scalar_named : (known : List Symbol) (a : Association) (n : Name) → In n (pin_names known a) → n.bit ≡ None → n ≡ named a
scalar_named known a n h s =
    let b = In-map_back (name_of a.pin.text) n (pin_bits known a.pin) h in
    let none : b.0 ≡ None = ap (λ (m : Name). m.bit) b.2 ∙ s in
    sym b.2 ∙ ap (name_of a.pin.text) none

among : (known : List Symbol) (maps : List Association) (n : Name) → In n (flat_map (pin_names known) maps) → n.bit ≡ None → In n (map named maps)
among known maps n h s =
    let a = in_flat (pin_names known) maps n h in
    subst (λ (m : Name). In m (map named maps)) (sym (scalar_named known a.0 n a.2 s)) (In-map named a.0 maps a.1)

-- the pins of an instance
abbrev Holds : List Name → Type 0
Holds pins = AreInOrder pins × ((pin : Name) → In pin pins → pin.bit ≡ None)

one_each : (table : List ModelPins) (i : InstanceStatement) (f : StructuralFile) → IsMapped table f i → Holds (instance_of table i).pins → length (instance_of table i).pins ≤ length i.associations
one_each table i f m h =
    let pins = map (λ (p : ModelPin). p.name) (pins_named table i.component) in
    let fit = no_more pins (map named i.associations) (different_names pins h.0) (λ n g.
    let p = In-map_back (λ (q : ModelPin). q.name) n (pins_named table i.component) g in
    among m.known i.associations n (subst (λ (x : Name). In x (flat_map (pin_names m.known) i.associations)) p.2 (m.all p.0 p.1)) (h.1 n g)) in
    let long = length-map i.associations named in
    omega (arith, fit, long)

all_each : (table : List ModelPins) (is : List InstanceStatement) → ((i : InstanceStatement) → In i is → length (instance_of table i).pins ≤ length i.associations)
    → length (flat_map pins_of (map (instance_of table) is)) ≤ mapped is
all_each table [] h = omega arith
all_each table (i ∷ is) h =
    let one = h i here in
    let rest = all_each table is (λ j g. h j (there g)) in
    let long : length (pins_of (instance_of table i)) ≡ length (instance_of table i).pins = length-map (instance_of table i).pins (pin_of i.label) in
    let both = length-append (pins_of (instance_of table i)) (flat_map pins_of (map (instance_of table) is)) in
    omega (arith, one, rest, long, both)

-- all pins of the instances of a text without bad maps are no more than its associations
pub pins_few : (table : List ModelPins) (f : StructuralFile) → bad_maps table f ≡ [] → ((i : Instance) → In i (map (instance_of table) f.instances) → Holds i.pins)
    → length (flat_map pins_of (map (instance_of table) f.instances)) ≤ mapped f.instances
pins_few table f e h = all_each table f.instances (λ i g. one_each table i f (all_mapped table f e i g) (h (instance_of table i) (In-map (instance_of table) i f.instances g)))
