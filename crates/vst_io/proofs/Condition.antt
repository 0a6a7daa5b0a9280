-- The netlist of a text without a fault meets the condition of the stages behind.
use Rattle.std.proofs.Common.{◌≡◌, ◌⊎◌, inl, inr, ℕ, zero, suc, ◌<◌, Bool, true, false, cond, not, ◌&&◌, ◌||◌, List, [], ◌∷◌, ◌++◌, map, length, get_or, Option, None, Some, refl, sym, ap, subst, ◌∙◌, bytes_eq, arith}
use Rattle.std.specs.Prelude.{is_none, option_map}
use Rattle.std.specs.List.{All, flat_map, zip, slice_index_or}
use Rattle.std.proofs.lemmas.List.Sorted.{IsPermutation-sym}
use Rattle.std.proofs.lemmas.Option.{slice_get_within, slice_get_read}
use Rattle.vlsi_base.specs.declared.name.Name.{Name}
use Rattle.vlsi_base.specs.declared.name.Port.{Port}
use Rattle.vlsi_base.specs.declared.name.Terminal.{Terminal}
use Rattle.vlsi_base.specs.declared.name.Dir.TheVariants as dir
use Rattle.vlsi_base.specs.declared.range.Range.{Range}
use Rattle.vlsi_base.specs.Member.{In, here, there}
use Rattle.vlsi_base.specs.Name.{is_supply}
use Rattle.vlsi_base.specs.Names.{scalar, vdd, vss}
use Rattle.vlsi_base.specs.NamePlaces.{name_of, last_place}
use Rattle.machine_core.proofs.Values.{In-left, In-right, In-split, In-map}
use Rattle.source_checks.specs.declared.statement.Selection.{Selection}
use Rattle.source_checks.specs.declared.statement.Selection.TheVariants as selection
use Rattle.source_checks.specs.declared.symbol_table.Role.{Role}
use Rattle.source_checks.specs.declared.symbol_table.Role.TheVariants as role
use Rattle.source_checks.specs.declared.symbol_table.Symbol.{Symbol}
use Rattle.source_checks.specs.Symbols.{find}
use Rattle.source_checks.specs.Elaboration.{port_of, ports_of_role}
use Rattle.source_checks.proofs.Lookups.{same_of}
use Rattle.source_checks.proofs.Names.{find_text}
use Rattle.vlsi_model.proofs.Members.{In-map_back}
use Rattle.vlsi_model.proofs.Assembly.{In-permutation}
use Rattle.vlsi_model.proofs.Bits.{found_in}
use Rattle.vlsi_model.proofs.Sorting.{In-at}
use Rattle.net_core.specs.declared.pins.ModelPin.{ModelPin}
use Rattle.net_core.specs.declared.pins.ModelPins.{ModelPins}
use Rattle.net_core.specs.Places.{IsThere, position_of}
use Rattle.net_core.specs.Netlist.{Instance, Netlist, IsNetlist, port, pin_of, pins_of, terminals, HasClass}
use Rattle.net_core.specs.Checks.{pins_named, Fits, Passes, IsPinTable}
use Rattle.net_core.proofs.Standing.{position_stands, position_absent}
use Rattle.net_core.proofs.Tables.{pins_found}
use Rattle.net_right.specs.Condition.{AreTogether, MeetsCondition}
use Rattle.vst_text.specs.declared.file.Component.{Component}
use Rattle.vst_text.specs.declared.file.Association.{Association}
use Rattle.vst_text.specs.declared.file.InstanceStatement.{InstanceStatement}
use Rattle.vst_text.specs.declared.file.StructuralFile.{StructuralFile}
use Rattle.vst_io.specs.Nets as net
use Rattle.vst_io.specs.Nets.{components, nets, bits_of, part_of, selected, pin_bits, net_bits, names, pin_names, net_names, port_bits, instance_of, links_of, map_links, instance_links, links}
use Rattle.vlsi_base.specs.Range.{is_ordered}
use Rattle.vst_io.specs.Faults.{first_unlisted, is_net_port, is_tied, all_forms}
use Rattle.vst_io.specs.Checked.{IsDeclared}
use Rattle.vst_io.specs.Text.{IsNetlistOf, ListsSupplies}
use Rattle.vst_io.proofs.Places.{stands_in, last_is, stands_map, IsLast}
use Rattle.vst_io.proofs.Classes.{in_first}
use Rattle.vst_io.proofs.Fine.{IsMapped, map_length, both_true, in_flat, flat_in}
use Rattle.vst_io.proofs.Ports.{text_of, ports_at}
use Rattle.vst_io.proofs.Linked.{end_of, end_there, port_link}
use Rattle.vst_io.proofs.Supplies.{supply_net, supply_port}

pub all_from : {X : Type 0} (P : X → Type 0) (xs : List X) → ((x : X) → In x xs → P x) → All P xs
all_from P xs h k d l = h (get_or xs k d) (In-at xs k d l)

all_in : {X : Type 0} (P : X → Type 0) (xs : List X) → All P xs → (x : X) → In x xs → P x
all_in P (y ∷ xs) h x here = h 0 y (omega arith)
all_in P (y ∷ xs) h x (there g) = all_in P xs (λ k d l. h (suc k) d (omega (arith, l))) x g
all_in P [] h x g = elim g [ ]

-- ---- models

listed_in : (table : List ModelPins) (cs : List Component) → first_unlisted table cs ≡ None → (c : Component) → In c cs → IsThere (map (λ m. m.model) table) c.name
listed_in table (x ∷ cs) e c h = by (position_of (map (λ m. m.model) table) x.name) refl e (in_first x c cs h) (listed_in table cs) where
  by : (o : Option ℕ) → position_of (map (λ m. m.model) table) x.name ≡ o → cond (is_none o) (Some x) (first_unlisted table cs) ≡ None → (c ≡ x) ⊎ In c cs
      → (first_unlisted table cs ≡ None → (d : Component) → In d cs → IsThere (map (λ m. m.model) table) d.name) → IsThere (map (λ m. m.model) table) c.name
  by None at e h rest = absurd cc
  by (Some k) at e (inl s) rest = subst (λ (d : Component). IsThere (map (λ m. m.model) table) d.name) (sym s) (k, position_stands (map (λ m. m.model) table) x.name k at)
  by (Some k) at e (inr h) rest = rest e c h
listed_in table [] e c h = elim h [ ]

-- the component of an instance is listed
model_listed : (table : List ModelPins) (f : StructuralFile) → first_unlisted table (components f.declarations) ≡ None → (i : InstanceStatement) → IsMapped table f i → IsThere (map (λ m. m.model) table) i.component
model_listed table f e i m =
    let cs = components f.declarations in
    by (last_place (map (λ c. scalar c.name) cs) (scalar i.component)) (last_is (map (λ c. scalar c.name) cs) (scalar i.component)) m.declared where
      by : (o : Option ℕ) → IsLast (map (λ c. scalar c.name) (components f.declarations)) (scalar i.component) o
          → option_map (λ k. slice_index_or (map net.pins (components f.declarations)) k []) o ≡ Some m.known → IsThere (map (λ m. m.model) table) i.component
      by None s d = absurd cc
      by (Some k) s d =
          let r = stands_map (λ (c : Component). scalar c.name) (components f.declarations) k (scalar i.component) s in
          let name : r.0.name ≡ i.component = ap (λ (n : Name). n.text) r.2 in
          subst (λ (t : List ℕ). IsThere (map (λ m. m.model) table) t) name (listed_in table (components f.declarations) e r.0 (stands_in (components f.declarations) k r.0 r.1))

-- and has the supplies among its pins
supply_pin : (table : List ModelPins) → ListsSupplies table → (model : List ℕ) → IsThere (map (λ m. m.model) table) model → (supply : Name) → (supply ≡ vdd) ⊎ (supply ≡ vss) → In supply (map (λ p. p.name) (pins_named table model))
supply_pin table lists model listed supply which = by (position_of (map (λ m. m.model) table) model) refl where
  at_model : (m : ModelPins) → In m table → m.pins ≡ pins_named table model → In supply (map (λ p. p.name) (pins_named table model))
  at_model m h e =
      let two = all_in (λ (n : ModelPins). IsThere (map (λ p. p.name) n.pins) vdd × IsThere (map (λ p. p.name) n.pins) vss) table lists m h in
      let ns = map (λ (p : ModelPin). p.name) m.pins in
      let pin : In supply ns = elim which [
        | inl d ↦ subst (λ (n : Name). In n ns) (sym d) (stands_in ns two.0.0 vdd two.0.1)
        | inr s ↦ subst (λ (n : Name). In n ns) (sym s) (stands_in ns two.1.0 vss two.1.1)
      ] in
      subst (λ (ps : List ModelPin). In supply (map (λ p. p.name) ps)) e pin

  by : (o : Option ℕ) → position_of (map (λ m. m.model) table) model ≡ o → In supply (map (λ p. p.name) (pins_named table model))
  by None e = absurd (position_absent (map (λ m. m.model) table) model e listed)
  by (Some k) e = let r = pins_found table model k e in at_model r.0 (stands_in table k r.0 r.1) r.2

-- ---- terminals and their classes

has_class : (n : Netlist) → IsNetlist n → (t : Terminal) → IsThere (terminals n) t → (k : ℕ) × HasClass n t k
has_class n sound t h =
    let l : h.0 < length (terminals n) = slice_get_within (terminals n) h.0 t h.1 in
    let m : h.0 < length n.classes = omega (arith, l, sound.each) in
    let class = get_or n.classes h.0 0 in
    (class, (h.0, h.1, slice_get_read n.classes (length n.classes) h.0 class refl m (get_same n.classes h.0 m))) where
      get_same : (xs : List ℕ) (k : ℕ) → k < length xs → get_or xs k 0 ≡ get_or xs k (get_or xs k 0)
      get_same [] k l = absurd (omega (arith, l))
      get_same (x ∷ xs) zero l = refl
      get_same (x ∷ xs) (suc k) l = get_same xs k (omega (arith, l))

zip_in : {X Y : Type 0} (xs : List X) (ys : List Y) (x : X) → length xs ≡ length ys → In x xs → (y : Y) × In (x, y) (zip xs ys) × In y ys
zip_in (x ∷ xs) (y ∷ ys) z e here = (y, here, here)
zip_in (x ∷ xs) (y ∷ ys) z e (there h) = let r = zip_in xs ys z (omega (arith, e)) h in (r.0, there r.1, there r.2)
zip_in (x ∷ xs) [] z e h = absurd (omega (arith, e))
zip_in [] ys z e h = elim h [ ]

scalar_bit : (sel : Selection) (b : Option ℕ) → In b (part_of None sel) → b ≡ None
scalar_bit selection.Whole b here = refl
scalar_bit selection.Whole b (there h) = elim h [ ]
scalar_bit (selection.Bit k) b h = elim h [ ]
scalar_bit (selection.Bits r) b h = by (is_ordered r) h where
  by : (o : Bool) → In b (cond (o && (false && false)) (bits_of (Some r)) []) → b ≡ None
  by true h = elim h [ ]
  by false h = elim h [ ]

-- ---- a supply and the port of its name

supply_text : (supply : Name) → (supply ≡ vdd) ⊎ (supply ≡ vss) → (is_supply supply.text ≡ true) × (supply ≡ name_of supply.text None)
supply_text supply which = elim which [
  | inl d ↦ subst (λ (n : Name). (is_supply n.text ≡ true) × (n ≡ name_of n.text None)) (sym d) (refl, refl)
  | inr s ↦ subst (λ (n : Name). (is_supply n.text ≡ true) × (n ≡ name_of n.text None)) (sym s) (refl, refl)
]

-- a net to which a supply is tied
pub record IsTiedTo (f : StructuralFile) (a : Association) (y : Name) : Type 0 where
  pub same : y ≡ name_of a.pin.text None
  pub port_there : In (port_of dir.In (name_of a.pin.text None)) (port_bits (nets f))

tied_net : (f : StructuralFile) → all_forms f ≡ [] → (a : Association) → is_tied (nets f) a ≡ true → is_supply a.pin.text ≡ true → (y : Name) → In y (net_names (nets f) a) → IsTiedTo f a y
tied_net f forms a tied supply y h =
    let both : (bytes_eq a.net.name a.pin.text && is_net_port (find (nets f) a.net.name)) ≡ true = ap (λ b. not b || (bytes_eq a.net.name a.pin.text && is_net_port (find (nets f) a.net.name))) (sym supply) ∙ tied in
    let two = both_true (bytes_eq a.net.name a.pin.text) (is_net_port (find (nets f) a.net.name)) both in
    let text : a.net.name ≡ a.pin.text = same_of a.net.name a.pin.text two.0 in
    by (find (nets f) a.net.name) refl two.1 text (In-map_back (name_of a.net.name) y (net_bits (nets f) a.net) h) where
      by : (o : Option Symbol) → find (nets f) a.net.name ≡ o → is_net_port o ≡ true → a.net.name ≡ a.pin.text → (b : Option ℕ) × In b (net_bits (nets f) a.net) × (name_of a.net.name b ≡ y) → IsTiedTo f a y
      by None e p text bit = absurd cc
      by (Some s) e p text bit =
          let symbol_in = found_in (nets f) a.net.name s e in
          let named : s.text ≡ a.net.name = find_text (nets f) a.net.name s e in
          let known = supply_net f forms s symbol_in p (ap is_supply (named ∙ text) ∙ supply) in
          let among : In bit.0 (part_of s.range a.net.selection) = subst (λ (o : Option Symbol). In bit.0 (selected o a.net.selection)) e bit.1 in
          let none : bit.0 ≡ None = scalar_bit a.net.selection bit.0 (subst (λ (o : Option Range). In bit.0 (part_of o a.net.selection)) known.1 among) in
          let at : In (port_of dir.In (name_of s.text None)) (ports_at s) =
          subst (λ (x : Role). In (port_of dir.In (name_of s.text None)) (ports_of_role x (names s.text (bits_of s.range)))) (sym known.0)
          (subst (λ (o : Option Range). In (port_of dir.In (name_of s.text None)) (ports_of_role role.Input (names s.text (bits_of o)))) (sym known.1) here) in
          record {
            same = sym bit.2 ∙ ap (name_of a.net.name) none ∙ ap (λ (t : List ℕ). name_of t None) text;
            port_there = subst (λ (t : List ℕ). In (port_of dir.In (name_of t None)) (port_bits (nets f))) (named ∙ text) (flat_in ports_at (nets f) s (port_of dir.In (name_of s.text None)) symbol_in at);
          }

abbrev Mapped : List ModelPins → StructuralFile → Type 0
Mapped table f = (i : InstanceStatement) → In i f.instances → IsMapped table f i

-- a supply's pin and the port of its name are linked to one net
supply_links : (table : List ModelPins) (f : StructuralFile) → all_forms f ≡ [] → (i : InstanceStatement) → In i f.instances → IsMapped table f i → (supply : Name) → (supply ≡ vdd) ⊎ (supply ≡ vss)
    → In supply (map (λ p. p.name) (pins_named table i.component)) → In (port supply, supply) (links f) × In (pin_of i.label supply, supply) (links f)
supply_links table f forms i listed m supply which pin =
    let q = In-map_back (λ (p : ModelPin). p.name) supply (pins_named table i.component) pin in
    let mapped : In supply (flat_map (pin_names m.known) i.associations) = subst (λ (n : Name). In n (flat_map (pin_names m.known) i.associations)) q.2 (m.all q.0 q.1) in
    let r = in_flat (pin_names m.known) i.associations supply mapped in
    let a = r.0 in
    let fine = m.fine.each a r.1 in
    let known = supply_text supply which in
    let text : supply.text ≡ a.pin.text = text_of a.pin.text (pin_bits m.known a.pin) supply r.2 in
    let many : length (map (pin_of i.label) (pin_names m.known a)) ≡ length (net_names (nets f) a) =
    map_length (pin_of i.label) (pin_names m.known a) ∙ map_length (name_of a.pin.text) (pin_bits m.known a.pin) ∙ sym fine.wide ∙ sym (map_length (name_of a.net.name) (net_bits (nets f) a.net)) in
    let z = zip_in (map (pin_of i.label) (pin_names m.known a)) (net_names (nets f) a) (pin_of i.label supply) many (In-map (pin_of i.label) supply (pin_names m.known a) r.2) in
    let tied = tied_net f forms a fine.tied (ap is_supply (sym text) ∙ known.0) z.0 z.2 in
    let itself : name_of a.pin.text None ≡ supply = ap (λ (t : List ℕ). name_of t None) (sym text) ∙ sym known.1 in
    let own : In (pin_of i.label supply, supply) (instance_links f i) =
    subst (λ (o : Option (List Symbol)). In (pin_of i.label supply, supply) (map_links f i o)) (sym m.declared)
    (flat_in (links_of m.known (nets f) i.label) i.associations a (pin_of i.label supply, supply) r.1 (subst (λ (n : Name). In (pin_of i.label supply, n) (links_of m.known (nets f) i.label a)) (tied.same ∙ itself) z.1)) in
    let link : In (port supply, supply) (map port_link (port_bits (nets f))) =
    subst (λ (n : Name). In (port n, n) (map port_link (port_bits (nets f)))) itself (In-map port_link (port_of dir.In (name_of a.pin.text None)) (port_bits (nets f)) tied.port_there) in (
      In-left (port supply, supply) (map port_link (port_bits (nets f))) (flat_map (instance_links f) f.instances) link,
      In-right (pin_of i.label supply, supply) (map port_link (port_bits (nets f))) (flat_map (instance_links f) f.instances) (flat_in (instance_links f) f.instances i (pin_of i.label supply, supply) listed own),
    )

-- a port of the netlist is linked to itself
port_linked : (table : List ModelPins) (f : StructuralFile) (n : Netlist) → IsNetlistOf table f n → (a : Name) (k : ℕ) → HasClass n (port a) k → In (port a, a) (links f)
port_linked table f n of a k h =
    let firsts = map (λ (p : Port). port p.name) n.ports in
    let seconds = flat_map pins_of n.instances in
    elim (In-split (port a) firsts seconds (stands_in (terminals n) h.0 (port a) h.1)) [
      | inl left ↦
          let r = In-map_back (λ (p : Port). port p.name) (port a) n.ports left in
          let name : r.0.name ≡ a = ap (λ (t : Terminal). t.pin) r.2 in
          let bit = In-permutation n.ports (port_bits (nets f)) r.0 of.ports r.1 in
          In-left (port a, a) (map port_link (port_bits (nets f))) (flat_map (instance_links f) f.instances) (subst (λ (m : Name). In (port m, m) (map port_link (port_bits (nets f)))) name (In-map port_link r.0 (port_bits (nets f)) bit))
      | inr right ↦
          let r = in_flat pins_of n.instances (port a) right in
          let s = In-map_back (pin_of r.0.name) (port a) r.0.pins r.2 in
          let both : Some r.0.name ≡ None = ap (λ (t : Terminal). t.instance) s.2 in
          absurd cc
    ]

pub meets : (table : List ModelPins) (f : StructuralFile) (n : Netlist) → IsPinTable table → IsDeclared table f → Mapped table f → IsNetlistOf table f n → Fits n table → Passes table n → ListsSupplies table → MeetsCondition table n
meets table f n is_table declared mapped of fits passes lists = record {
  fits = fits;
  passes = passes;
  supplies = λ p h s. supply_port f declared.forms p (In-permutation n.ports (port_bits (nets f)) p of.ports (stands_in n.ports h.0 p h.1)) s;
  tied = tied;
  apart = λ a b k p q. (of.classes (port a) (port b) a b k k (port_linked table f n of a k p) (port_linked table f n of b k q) p q).0 refl;
} where
  is_there : (t : Terminal) (x : Name) → In (t, x) (links f) → IsThere (terminals n) t
  is_there t x h =
      let at = end_there table f n.ports mapped (IsPermutation-sym n.ports (port_bits (nets f)) of.ports) t (In-map end_of (t, x) (links f) h) in
      subst (λ (is : List Instance). IsThere (map (λ (p : Port). port p.name) n.ports ++ flat_map pins_of is) t) (sym of.instances) at

  tied : (i : Instance) (supply : Name) → IsThere n.instances i → (supply ≡ vdd) ⊎ (supply ≡ vss) → AreTogether n supply i.name
  tied i supply h which =
      let r = In-map_back (instance_of table) i f.instances (subst (λ (is : List Instance). In i is) of.instances (stands_in n.instances h.0 i h.1)) in
      let j = r.0 in
      let m = mapped j r.1 in
      let pin = supply_pin table lists j.component (model_listed table f declared.listed j m) supply which in
      let two = supply_links table f declared.forms j r.1 m supply which pin in
      let a = has_class n of.sound (port supply) (is_there (port supply) supply two.0) in
      let b = has_class n of.sound (pin_of j.label supply) (is_there (pin_of j.label supply) supply two.1) in
      let same : b.0 ≡ a.0 = (of.classes (pin_of j.label supply) (port supply) supply supply b.0 a.0 two.1 two.0 b.1 a.1).1 refl in
      let owner : j.label ≡ i.name = ap (λ (x : Instance). x.name) r.2 in
      record {
        class = a.0;
        of_port = a.1;
        of_pin = subst (λ (t : List ℕ). HasClass n (pin_of t supply) a.0) owner (subst (λ (k : ℕ). HasClass n (pin_of j.label supply) k) same b.1);
      }

-- the netlist fits the table
pub fits_table : (table : List ModelPins) (f : StructuralFile) (n : Netlist) → IsPinTable table → IsDeclared table f → Mapped table f → IsNetlistOf table f n → Fits n table
fits_table table f n is_table declared mapped of = record {
  table_is = is_table;
  listed = all_from (λ (i : Instance). IsThere (map (λ m. m.model) table) i.model) n.instances (λ i h.
      let r = In-map_back (instance_of table) i f.instances (subst (λ (is : List Instance). In i is) of.instances h) in
      subst (λ (x : Instance). IsThere (map (λ m. m.model) table) x.model) r.2 (model_listed table f declared.listed r.0 (mapped r.0 r.1)));
  pins = all_from (λ (i : Instance). i.pins ≡ map (λ p. p.name) (pins_named table i.model)) n.instances (λ i h.
      let r = In-map_back (instance_of table) i f.instances (subst (λ (is : List Instance). In i is) of.instances h) in
      subst (λ (x : Instance). x.pins ≡ map (λ p. p.name) (pins_named table x.model)) r.2 refl);
}
