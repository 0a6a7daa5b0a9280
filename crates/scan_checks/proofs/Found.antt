-- The registers of a netlist.
use Rattle.std.proofs.Common.{◌≡◌, ℕ, suc, zero, ◌+◌, ◌<◌, ◌≤◌, Bool, true, false, not, List, [], ◌∷◌, ◌++◌, map, filter, length, get_or, take, Some, None, Option, refl, sym, ap, ◌∙◌, subst, arith, if◌then◌else◌}
use Rattle.std.specs.List.{flat_map}
use Rattle.std.specs.Prelude.{IfSome, IsNone}
use Rattle.std.proofs.lemmas.List.{take_all}
use Rattle.std.proofs.lemmas.Option.{same_Some, slice_get_within, slice_get-get_or}
use Rattle.vlsi_base.specs.declared.kind.Kind.{Kind}
use Rattle.vlsi_base.specs.declared.kind.Kind.TheVariants as kind
use Rattle.vlsi_base.specs.declared.name.Name.{Name}
use Rattle.vlsi_base.specs.declared.name.Terminal.{Terminal}
use Rattle.vlsi_base.specs.Member.{In, here, there, AllDifferent}
use Rattle.machine_core.specs.Machine.{is_input, names_of}
use Rattle.cell_model.specs.Function.{Function, gate, flip_flop, other, opaque}
use Rattle.cell_model.specs.Cell.{Cell, cell_outputs}
use Rattle.cell_model.specs.declared.cell.Pin.{Pin}
use Rattle.cell_model.specs.declared.function.Function.{Function as Parts}
use Rattle.cell_model.specs.View.{function_view}
use Rattle.cell_model.specs.Covering.{HasKind, HasCellOf}
use Rattle.cell_model.specs.Library.{Library, cell_of, cell_named, IsPlain, IsUsable}
use Rattle.cell_model.proofs.Members.{In-map, In-map_back}
use Rattle.cell_pins.specs.Pins.{all_ports}
use Rattle.cell_pins.proofs.Ports.{in_filter}
use Rattle.cell_pins.proofs.Sound.{member_at}
use Rattle.cell_checks.specs.Checked.{IsChecked as HasPassed, library_of}
use Rattle.net_core.specs.declared.frame.Node.{Node}
use Rattle.net_core.specs.Places.{Stands, IsThere}
use Rattle.net_core.specs.Frame.{instance_of, node_pins, AreNumbered}
use Rattle.net_core.specs.Netlist.{Instance, Netlist, IsNetlist, pin_of, terminals, terminals_of}
use Rattle.net_core.proofs.Finishing.{netlist_terminals_once}
use Rattle.net_core.proofs.Frames.{mapped, port_terminals, terminals_are, pin_found}
use Rattle.net_right.proofs.Lists.{in_place}
use Rattle.loon_fanout.proofs.Adding.{take_next}
use Rattle.loon_fanout.proofs.Picking.{different_of}
use Rattle.loon_fanout.proofs.Terminals.{class_is}
use Rattle.scan_theory.specs.Path.{is_flip_flop, holds_bit, is_register, register_names, IsCovered}
use Rattle.scan_theory.specs.Scan.{Stage, loads, gives, class_in, IsCellOf}
use Rattle.scan_theory.proofs.Cells.{celled}
use Rattle.net_bits.proofs.Lists.{input_pin, output_pin}
use Rattle.scan_checks.specs.declared.registers.Register.{Register}
use Rattle.scan_checks.specs.Registers.{IsScannable, IsDataPin, IsPinAt, IsRegisterBy, IsRegisterOf, AreRegisters, none, more, IsNodeOf, PushesRegister}

-- a usable cell of a kind
abbrev pub IsOfKind : Kind → Cell → Type 0
IsOfKind k c = IsUsable c × HasKind c k

-- ---- registers one behind the other

pub registers_on : (n : Netlist) (l : Library) (names others : List (List ℕ)) (rs more_rs : List Register) → AreRegisters n l names rs → AreRegisters n l others more_rs
    → AreRegisters n l (names ++ others) (rs ++ more_rs)
registers_on n l _ others _ more_rs none k = k
registers_on n l _ others _ more_rs (more {names = names} {rs = rs} one rest) k = more one (registers_on n l names others rs more_rs rest k)

-- ---- an instance and its pins

module _ (n : Netlist) (nodes : List Node) (seen : map (instance_of n.models) nodes ≡ n.instances) (numbered : AreNumbered n.ports nodes) (number : ℕ) (node : Node)
    (low : number < length nodes) (is : node ≡ get_or nodes number node) where
  stood : Stands nodes number node
  stood = subst (λ (x : Node). Stands nodes number x) (sym is) (slice_get-get_or nodes number node low)

  first_is : node.first ≡ length n.ports + length (flat_map node_pins (take number nodes))
  first_is = subst (λ (x : Node). x.first ≡ length n.ports + length (flat_map node_pins (take number nodes))) (sym is) (numbered number node low)

  pub node_is : IsNodeOf n node
  node_is = record {
    place = number;
    stands = subst (λ (is : List Instance). Stands is number (instance_of n.models node)) seen (mapped (instance_of n.models) nodes number node stood);
    pins = λ k pin s.
        let first = first_is in
        let e : length n.ports + (length (flat_map node_pins (take number nodes)) + k) ≡ node.first + k = omega (arith, first) in
        subst (λ (ts : List Terminal). Stands ts (node.first + k) (pin_of node.name pin))
        (sym (ap (λ (is : List Instance). terminals_of n.ports is) (sym seen) ∙ terminals_are n.ports n.models nodes))
        (subst (λ j. Stands (port_terminals n.ports ++ flat_map node_pins nodes) j (pin_of node.name pin)) e (pin_found n.ports nodes number k node pin stood s));
  }

-- ---- the register that an instance is

flips : (f : Function) → is_flip_flop f ≡ true → (load clock : Name) × (f ≡ flip_flop load clock)
flips (gate e) h = absurd (cc h)
flips (flip_flop load clock) h = (load, clock, refl)
flips (other m) h = absurd (cc h)
flips opaque h = absurd (cc h)

module _ (n : Netlist) (l : Library) (sound : IsNetlist n) (node : Node) (of : IsNodeOf n node) (c : Cell) (found : cell_of l (instance_of n.models node).model ≡ Some c)
    (usable : IsUsable c) (pins : node.pins ≡ names_of (all_ports c)) (r : Register) (by : IsRegisterBy c node n.classes r) where
  load_in : In by.load node.pins
  load_in =
      let plain : IsPlain c (flip_flop by.load by.is_load.0) = subst (λ (f : Function). IsPlain c f) by.is_load.1 usable.function in
      subst (λ (ns : List Name). In by.load ns) (sym pins) (input_pin c by.load plain.2)

  output_in : In by.output node.pins
  output_in = subst (λ (ns : List Name). In by.output ns) (sym pins) (output_pin c by.output (subst (λ (ns : List Name). In by.output ns) (sym by.only) here))

  abbrev stage : Stage
  stage = record { name = node.name; load = by.load; output = by.output }

  -- the class that stands at the place of a pin
  class_at : (pin : Name) (place : ℕ) → IsPinAt node pin place → (Stands (terminals n) place (pin_of node.name pin)) × (class_in n (pin_of node.name pin) ≡ get_or n.classes place 0)
  class_at pin place (k, at, is) = (
    stands,
    class_is (terminals n) n.classes (pin_of node.name pin) place (get_or n.classes place 0) (netlist_terminals_once n sound) stands
        (slice_get-get_or n.classes place 0 (let w = slice_get_within (terminals n) place (pin_of node.name pin) stands in let e = sound.each in omega (arith, w, e))),
  ) where
    stands : Stands (terminals n) place (pin_of node.name pin)
    stands = subst (λ j. Stands (terminals n) j (pin_of node.name pin)) (sym is) (of.pins k pin at)

  pub register_is : IsRegisterOf n l node.name r
  register_is = record {
    named = by.name;
    stage = stage;
    is = record {
      instance = instance_of n.models node;
      listed = member_at n.instances of.place (instance_of n.models node) of.stands;
      named = refl;
      same = refl;
      cell = c;
      found = found;
      clock = by.is_load.0;
      is = by.is_load.1;
      out = by.only;
    };
    place = (class_at by.load r.place (by.place load_in)).0;
    loads = by.loads ∙ sym (class_at by.load r.place (by.place load_in)).1;
    gives = let g = by.gives output_in in g.2 ∙ sym (class_at by.output g.0 g.1).1;
  }

-- the cell of an instance is usable, and has its pins
pub cell_known : (l : Library) (n : Netlist) → HasPassed false l → IsScannable l n → (node : Node) → IsNodeOf n node → (c : Cell) → cell_of l (instance_of n.models node).model ≡ Some c
    → IsUsable c × (node.pins ≡ names_of (all_ports c))
cell_known l n passed can node of c found =
    let k = celled l can.table passed can.listed n can.met.fits (instance_of n.models node) (member_at n.instances of.place (instance_of n.models node) of.stands) in
    let same : k.cell ≡ c = same_Some k.cell c (sym k.found ∙ found) in
    (subst (λ (x : Cell). IsUsable x) same k.usable, subst (λ (x : Cell). node.pins ≡ names_of (all_ports x)) same k.pins)

-- whether it is a register
register_test : (l : Library) (n : Netlist) (node : Node) (c : Cell) (b : Bool) → cell_of l (instance_of n.models node).model ≡ Some c → is_flip_flop c.function ≡ b
    → is_register l (instance_of n.models node) ≡ b
register_test l n node c b found is = ap holds_bit found ∙ is

-- nothing is put behind the others
pub pushes_none : (l : Library) (n : Netlist) (node : Node) (rs : List Register) → is_register l (instance_of n.models node) ≡ false → PushesRegister n l node rs rs
pushes_none l n node rs is = ([], sym (append_nil rs), subst (λ (b : Bool). AreRegisters n l (if b then node.name ∷ [] else []) []) (sym is) none) where
  append_nil : (xs : List Register) → xs ++ [] ≡ xs
  append_nil [] = refl
  append_nil (x ∷ xs) = ap (λ (ys : List Register). x ∷ ys) (append_nil xs)

pub no_cell : (l : Library) (n : Netlist) (node : Node) (rs : List Register) → cell_of l (instance_of n.models node).model ≡ None → PushesRegister n l node rs rs
no_cell l n node rs found = pushes_none l n node rs (ap holds_bit found)

pub no_register : (l : Library) (n : Netlist) (node : Node) (c : Cell) (rs : List Register) → cell_of l (instance_of n.models node).model ≡ Some c → is_flip_flop c.function ≡ false
    → PushesRegister n l node rs rs
no_register l n node c rs found is = pushes_none l n node rs (register_test l n node c false found is)

pub one_register : (l : Library) (n : Netlist) → IsNetlist n → (node : Node) → IsNodeOf n node → (c : Cell) → cell_of l (instance_of n.models node).model ≡ Some c
    → IsUsable c → node.pins ≡ names_of (all_ports c) → (r : Register) → IsRegisterBy c node n.classes r → (rs : List Register) → PushesRegister n l node rs (rs ++ r ∷ [])
one_register l n sound node of c found usable pins r by rs = (
  r ∷ [],
  refl,
  subst (λ (b : Bool). AreRegisters n l (if b then node.name ∷ [] else []) (r ∷ []))
      (sym (register_test l n node c true found (ap is_flip_flop by.is_load.1)))
      (more (register_is n l sound node of c found usable pins r by) none),
)

-- ---- all instances

abbrev pub registers_among : Library → Netlist → List Node → List (List ℕ)
registers_among l n nodes = map (λ (i : Instance). i.name) (filter (is_register l) (map (instance_of n.models) nodes))

abbrev name_of : Library → Netlist → Node → List (List ℕ)
name_of l n node = if is_register l (instance_of n.models node) then node.name ∷ [] else []

names_more : (l : Library) (n : Netlist) (front : List Node) (node : Node) → registers_among l n (front ++ node ∷ []) ≡ registers_among l n front ++ name_of l n node
names_more l n [] node = by (is_register l (instance_of n.models node)) where
  by : (b : Bool) → map (λ (i : Instance). i.name) (if b then instance_of n.models node ∷ [] else []) ≡ (if b then node.name ∷ [] else [])
  by true = refl
  by false = refl
names_more l n (x ∷ front) node =
    by (is_register l (instance_of n.models x)) (filter (is_register l) (map (instance_of n.models) (front ++ node ∷ []))) (filter (is_register l) (map (instance_of n.models) front))
    (names_more l n front node) where
      by : (b : Bool) (behind before : List Instance) → map (λ (i : Instance). i.name) behind ≡ map (λ (i : Instance). i.name) before ++ name_of l n node
          → map (λ (i : Instance). i.name) (if b then instance_of n.models x ∷ behind else behind)
          ≡ map (λ (i : Instance). i.name) (if b then instance_of n.models x ∷ before else before) ++ name_of l n node
      by true behind before h = ap (λ (ns : List (List ℕ)). x.name ∷ ns) h
      by false behind before h = h

pub register_next : (l : Library) (n : Netlist) (nodes : List Node) (k : ℕ) (node : Node) (old new : List Register) → k < length nodes → node ≡ get_or nodes k node
    → AreRegisters n l (registers_among l n (take k nodes)) old → PushesRegister n l node old new → AreRegisters n l (registers_among l n (take (k + 1) nodes)) new
register_next l n nodes k node old new low is before (added, new_is, are) =
    subst (λ (rs : List Register). AreRegisters n l (registers_among l n (take (k + 1) nodes)) rs) (sym new_is)
    (subst (λ (ns : List (List ℕ)). AreRegisters n l ns (old ++ added))
    (sym (ap (registers_among l n) (take_next nodes k node low is) ∙ names_more l n (take k nodes) node))
    (registers_on n l (registers_among l n (take k nodes)) (name_of l n node) old added before are))

pub all_registers : (l : Library) (n : Netlist) (nodes : List Node) (k : ℕ) (rs : List Register) → map (instance_of n.models) nodes ≡ n.instances → length nodes ≤ k
    → AreRegisters n l (registers_among l n (take k nodes)) rs → AreRegisters n l (register_names l n) rs
all_registers l n nodes k rs seen over h =
    subst (λ (is : List Instance). AreRegisters n l (map (λ (i : Instance). i.name) (filter (is_register l) is)) rs)
    (ap (map (instance_of n.models)) (take_all k nodes over) ∙ seen) h

-- ---- names of registers

pub names_are : (n : Netlist) (l : Library) (names : List (List ℕ)) (rs : List Register) → AreRegisters n l names rs → map (λ (r : Register). r.name) rs ≡ names
names_are n l _ _ none = refl
names_are n l _ _ (more {name = name} {r = r} {names = names} {rs = rs} one rest) =
    ap (λ (x : List ℕ). x ∷ map (λ (y : Register). y.name) rs) one.named ∙ ap (λ (xs : List (List ℕ)). name ∷ xs) (names_are n l names rs rest)

filtered_map : {A B : Type 0} (f : A → B) (p : A → Bool) (xs : List A) (y : B) → In y (map f (filter p xs)) → In y (map f xs)
filtered_map {A} {B} f p xs y i =
    let r = In-map_back f y (filter p xs) i in
    subst (λ (z : B). In z (map f xs)) r.2 (In-map f r.0 xs (in_filter p xs r.0 r.1).0)

filtered_differ : {A B : Type 0} (f : A → B) (p : A → Bool) (xs : List A) → AllDifferent (map f xs) → AllDifferent (map f (filter p xs))
filtered_differ f p [] d = tt
filtered_differ {A} {B} f p (x ∷ xs) d = by (p x) (filtered_differ f p xs d.1) where
  by : (b : Bool) → AllDifferent (map f (filter p xs)) → AllDifferent (map f (if b then x ∷ filter p xs else filter p xs))
  by true h = (λ i. d.0 (filtered_map f p xs (f x) i), h)
  by false h = h

pub names_differ : (l : Library) (n : Netlist) → IsNetlist n → AllDifferent (register_names l n)
names_differ l n sound = filtered_differ (λ (i : Instance). i.name) (is_register l) n.instances (different_of (map (λ (i : Instance). i.name) n.instances) sound.names)

-- ---- what is made of an instance

plain_out : (c : Cell) (f : Function) → IsPlain c f → is_flip_flop f ≡ true → length (cell_outputs c) ≡ 1
plain_out c (gate e) p h = absurd (cc h)
plain_out c (flip_flop load clock) p h = p.0
plain_out c (other m) p h = absurd (cc h)
plain_out c opaque p h = absurd (cc h)

alone : (names : List Name) (name : Name) (rest : List Name) → names ≡ name ∷ rest → length names ≡ 1 → names ≡ name ∷ []
alone names name [] is one = is
alone names name (next ∷ rest) is one = absurd (let many = ap length is in omega (arith, many, one))

pub register_made : (c : Cell) (node : Node) (classes : List ℕ) → IsUsable c → (f : Parts) (pins : List Pin) (data_pin output_name : Name) (name_is : List ℕ) (at second : ℕ) (low_class high_class : ℕ)
    → function_view f ≡ c.function → pins ≡ c.pins → IsDataPin (function_view f) data_pin
    → (rest : List Name) × (names_of (filter (λ p. not (is_input p.dir)) (map (λ p. p.port) pins)) ≡ output_name ∷ rest) → name_is ≡ node.name
    → (IsThere node.pins data_pin → IsPinAt node data_pin at) → (IsThere node.pins output_name → IsPinAt node output_name second)
    → low_class ≡ get_or classes at 0 → high_class ≡ get_or classes second 0 → IsRegisterBy c node classes (record { name = name_is; place = at; loads = low_class; gives = high_class })
register_made c node classes usable f pins data_pin output_name name_is at second low_class high_class function pins_are is_data outs named at_data at_output loads_is gives_is = record {
  name = named;
  load = data_pin;
  is_load = subst (λ (g : Function). IsDataPin g data_pin) function is_data;
  output = output_name;
  only = alone (cell_outputs c) output_name outs.0
      (ap (λ (ps : List Pin). names_of (filter (λ p. not (is_input p.dir)) (map (λ p. p.port) ps))) (sym pins_are) ∙ outs.1)
      (plain_out c c.function usable.function (ap is_flip_flop (sym function ∙ is_data.1)));
  place = λ h. at_data (in_place data_pin node.pins h);
  loads = loads_is;
  gives = λ h. (second, at_output (in_place output_name node.pins h), gives_is);
}

-- the first cell of a name, by lists
pub cell_by : (l : Library) (cells : List Cell) (model wanted : List ℕ) (o p : Option Cell) → library_of cells ≡ l → p ≡ cell_named cells model → model ≡ wanted → p ≡ o → cell_of l wanted ≡ o
cell_by l cells model wanted o p same found named is =
    sym (ap (λ (k : Library). cell_of k wanted) same) ∙ ap (cell_named cells) (sym named) ∙ sym found ∙ is

pub model_at : (models seen : List (List ℕ)) (k : ℕ) (m : List ℕ) → seen ≡ models → k < length models → m ≡ get_or seen k m → m ≡ get_or models k []
model_at models seen k m are low is = is ∙ ap (λ (xs : List (List ℕ)). get_or xs k m) are ∙ same models k m [] low where
  same : (xs : List (List ℕ)) (i : ℕ) (a b : List ℕ) → i < length xs → get_or xs i a ≡ get_or xs i b
  same [] i a b l = absurd (omega (arith, l))
  same (x ∷ xs) zero a b l = refl
  same (x ∷ xs) (suc i) a b l = same xs i a b (omega (arith, l))

pub register_some : (c : Cell) (node : Node) (seen classes : List ℕ) (o : Option Register) (r : Register) → seen ≡ classes → IfSome o (λ x. IsRegisterBy c node seen x) → o ≡ Some r
    → IsRegisterBy c node classes r
register_some c node seen classes o r same some is =
    subst (λ (cs : List ℕ). IsRegisterBy c node cs r) same (subst (λ (x : Option Register). IfSome x (λ y. IsRegisterBy c node seen y)) is some)

pub register_none : (c : Cell) (o : Option Register) → (IsNone o → is_flip_flop c.function ≡ false) → o ≡ None → is_flip_flop c.function ≡ false
register_none c o hasnt is = hasnt (subst (λ (x : Option Register). IsNone x) (sym is) refl)

pub has_cell : (cells : List Cell) (k : Kind) (c : Cell) → IsCellOf (library_of cells) k c → HasCellOf cells k
has_cell cells k c h = record { cell = c; listed = h.listed; usable = h.usable; kind = h.kind }

pub both_covered : (cells : List Cell) (inverter nand : Cell) → IsCellOf (library_of cells) kind.Inv inverter → IsCellOf (library_of cells) kind.Nand2 nand → IsCovered (library_of cells)
both_covered cells inverter nand a b _ here = has_cell cells kind.Inv inverter a
both_covered cells inverter nand a b _ (there here) = has_cell cells kind.Nand2 nand b
both_covered cells inverter nand a b k (there (there h)) = elim h [ ]
