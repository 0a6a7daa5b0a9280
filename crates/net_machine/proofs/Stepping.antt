-- A netlist and the machine of its bits keep step.
use Rattle.std.proofs.Common.{◌≡◌, ◌⊎◌, inl, inr, ℕ, zero, suc, ◌+◌, ◌<◌, ◌≤◌, Bool, true, false, cond, not, ◌&&◌, List, [], ◌∷◌, ◌++◌, map, length, get_or, take, drop, replicate, Option, None, Some, refl, sym, ap, ◌∙◌, subst, arith, length-append, append_assoc}
use Rattle.std.specs.Prelude.{bytes_eq, codes}
use Rattle.std.specs.List.{flat_map}
use Rattle.std.proofs.lemmas.List.{length-map, map-append, get_or-map, length-take-le, length-drop, get_or-take, length-replicate}
use Rattle.vlsi_base.specs.declared.name.Name.{Name}
use Rattle.vlsi_base.specs.declared.name.Port.{Port}
use Rattle.vlsi_base.specs.declared.name.Dir.{Dir}
use Rattle.vlsi_base.specs.declared.name.Dir.TheVariants as dir
use Rattle.vlsi_base.specs.Name.{is_supply}
use Rattle.vlsi_base.specs.Names.{vdd, vss}
use Rattle.vlsi_base.specs.Range.{rising}
use Rattle.vlsi_base.specs.Member.{In, here, there, AllDifferent}
use Rattle.bool_expr.specs.Expression.{constant, variable, IsOver, bit, val}
use Rattle.machine_core.specs.Named.{value_at, is_same_text, is_same_name}
use Rattle.machine_core.specs.Machine.{Machine, is_clock, inputs, Register, register_names}
use Rattle.machine_core.specs.Cycles.{Settles}
use Rattle.machine_core.proofs.Names.{same_name-itself, same_name-true, same_name-false}
use Rattle.machine_core.proofs.Values.{In-split, In-left, In-right, In-map}
use Rattle.source_bits.specs.Driven.{Numbered, NumberedStorage}
use Rattle.vlsi_model.specs.Numbered.{name_at}
use Rattle.vlsi_model.specs.Laid.{inputs_of}
use Rattle.vlsi_model.proofs.Members.{In-cases, In-map_back}
use Rattle.vlsi_model.proofs.PortBits.{In-filter}
use Rattle.vlsi_model.proofs.Sorting.{place_of_In, In-at}
use Rattle.cell_model.specs.Cell.{Function, gate, flip_flop, other, opaque, Cell}
use Rattle.cell_model.specs.Library.{cell_of}
use Rattle.net_core.specs.Places.{IsThere}
use Rattle.net_core.specs.Netlist.{Instance, port, pin_of, terminals}
use Rattle.net_core.specs.Checks.{port_role}
use Rattle.net_meaning.specs.Netlist.{Member as Layout}
use Rattle.net_meaning.specs.Behaviour.{Contents, Valuation, Drives, NetSettles, model_of, cell_at, loaded, next_held, net_next, pin_bits}
use Rattle.net_right.specs.View.{member_of}
use Rattle.bit_machine.specs.System.{BitsSettle, bits_next, bits_shown, IsMachineOfBits}
use Rattle.bit_machine.proofs.Showing.{shown_at}
use Rattle.net_machine.specs.Signals.{signal_ports, net_inputs}
use Rattle.net_machine.specs.Step.{held_in, held_at, held_by, FitsContents, zeros, zeros_of, no_contents, ShowAlike, AreInStep, KeepsStep}
use Rattle.net_machine.specs.Body.{Load, Body, body_of, body_at, width}
use Rattle.net_machine.specs.Bits.{own_name, is_signal, fixed_bit, own_of, port_driven, class_of_port, classes_driven, numbers, body_stored, body_driven, stored_from}
use Rattle.net_machine.specs.Gathered.{bits_count}
use Rattle.net_machine.proofs.Drivers.{a_port, In_there}
use Rattle.net_machine.proofs.Bodies.{All_is, machine_bits}
use Rattle.net_machine.proofs.Cells.{fine_over, fine_pins, class_there}
use Rattle.net_machine.proofs.Scenes.{Scene, class_low, Member, member, not_opaque}
use Rattle.net_machine.proofs.Blocks.{all_stored, all_driven, body_in}
use Rattle.net_machine.proofs.Whole.{system, first, names_count, instances_apart, rising_count}
use Rattle.net_machine.proofs.Fitting.{name_of_port, clock_port, picked, supply_name}
use Rattle.net_machine.proofs.Local.{BodyHolds, take_front, settled_pieces}
use Rattle.net_machine.proofs.Places.{Place, first as at_first, next as at_next, place_of, placed_in, driven_in, driven_by, held_all, held_count, held_split, held_join, local, inner_of, inner_at, bit_left, block_at, blocks_count, bit_right}
use Rattle.net_machine.proofs.Settling.{seen_net, Driven, holds_if, driven_if, pins_shown, AgreeBelow, Stage, drives, holds, IsLocal, FitsHeld, held_itself, loads_next, stored_next, loads, reads_agree, local_pieces, rising_split}
use Rattle.net_core.proofs.Rings.{class_below}
use Rattle.std.specs.Cmp.Lexicographic.{bytes_decides}
use Rattle.cell_model.specs.Usable.{FitsPins}

-- ---- ports

port_own : (s : Scene) (k : ℕ) (ps : List Port) (j : ℕ) (p : Port) → j < length ps → get_or ps j p ≡ p → (d : Numbered) → In d (own_of s.class s.clock (k + j) p p.dir) → In d (port_driven s.class s.clock k ps)
port_own s k [] j p l e d i = absurd (omega (arith, l))
port_own s k (q ∷ ps) zero p l e d i =
    let z : k + 0 ≡ k = omega arith in
    In-left d (own_of s.class s.clock k q q.dir) (port_driven s.class s.clock (k + 1) ps) (subst (λ (x : Port). In d (own_of s.class s.clock k x x.dir)) (sym e) (subst (λ n. In d (own_of s.class s.clock n p p.dir)) z i))
port_own s k (q ∷ ps) (suc j) p l e d i =
    let z : k + suc j ≡ k + 1 + j = omega arith in
    In-right d (own_of s.class s.clock k q q.dir) (port_driven s.class s.clock (k + 1) ps) (port_own s (k + 1) ps j p (omega (arith, l)) e d (subst (λ n. In d (own_of s.class s.clock n p p.dir)) z i))

port_class : (s : Scene) (k : ℕ) (ps : List Port) (j : ℕ) (p : Port) → j < length ps → get_or ps j p ≡ p → (d : Numbered) → In d (class_of_port s.class (k + j) p p.dir) → In d (classes_driven s.class k ps)
port_class s k [] j p l e d i = absurd (omega (arith, l))
port_class s k (q ∷ ps) zero p l e d i =
    let z : k + 0 ≡ k = omega arith in
    In-left d (class_of_port s.class k q q.dir) (classes_driven s.class (k + 1) ps) (subst (λ (x : Port). In d (class_of_port s.class k x x.dir)) (sym e) (subst (λ n. In d (class_of_port s.class n p p.dir)) z i))
port_class s k (q ∷ ps) (suc j) p l e d i =
    let z : k + suc j ≡ k + 1 + j = omega arith in
    In-right d (class_of_port s.class k q q.dir) (classes_driven s.class (k + 1) ps) (port_class s (k + 1) ps j p (omega (arith, l)) e d (subst (λ n. In d (class_of_port s.class n p p.dir)) z i))

-- the bit of each port is that of its class, and that of a supply or the clock is fixed
pub record PortsHold (s : Scene) (y : List Bool) : Type 0 where
  pub same : (j : ℕ) (p : Port) → j < length s.n.ports → get_or s.n.ports j p ≡ p → bit y (s.class (port p.name)) ≡ bit y (s.n.count + j)
  pub fixed : (j : ℕ) (p : Port) → j < length s.n.ports → get_or s.n.ports j p ≡ p → p.dir ≡ dir.In → is_signal s.clock p ≡ false → bit y (s.n.count + j) ≡ fixed_bit p

ports_hold : (s : Scene) (y : List Bool) → ((d : Numbered) → In d (system s).driven → Driven y d) → PortsHold s y
ports_hold s y h = record { same = λ j p l e. same j p l e p.dir refl; fixed = fixed } where
  by_own : (d : Numbered) → In d (port_driven s.class s.clock s.n.count s.n.ports) → Driven y d
  by_own d i = h d (In-left d (port_driven s.class s.clock s.n.count s.n.ports) (classes_driven s.class s.n.count s.n.ports ++ all_driven s (first s) s.n.instances) i)

  by_class : (d : Numbered) → In d (classes_driven s.class s.n.count s.n.ports) → Driven y d
  by_class d i =
      h d (In-right d (port_driven s.class s.clock s.n.count s.n.ports) (classes_driven s.class s.n.count s.n.ports ++ all_driven s (first s) s.n.instances)
      (In-left d (classes_driven s.class s.n.count s.n.ports) (all_driven s (first s) s.n.instances) i))

  same : (j : ℕ) (p : Port) → j < length s.n.ports → get_or s.n.ports j p ≡ p → (d : Dir) → p.dir ≡ d → bit y (s.class (port p.name)) ≡ bit y (s.n.count + j)
  same j p l e dir.In f =
      by_class (record { bit = s.class (port p.name); expr = variable (s.n.count + j) })
      (port_class s s.n.count s.n.ports j p l e (record { bit = s.class (port p.name); expr = variable (s.n.count + j) })
      (subst (λ (x : Dir). In (record { bit = s.class (port p.name); expr = variable (s.n.count + j) }) (class_of_port s.class (s.n.count + j) p x)) (sym f) here))
  same j p l e dir.Out f =
      sym (by_own (record { bit = s.n.count + j; expr = variable (s.class (port p.name)) })
      (port_own s s.n.count s.n.ports j p l e (record { bit = s.n.count + j; expr = variable (s.class (port p.name)) })
      (subst (λ (x : Dir). In (record { bit = s.n.count + j; expr = variable (s.class (port p.name)) }) (own_of s.class s.clock (s.n.count + j) p x)) (sym f) here)))

  fixed : (j : ℕ) (p : Port) → j < length s.n.ports → get_or s.n.ports j p ≡ p → p.dir ≡ dir.In → is_signal s.clock p ≡ false → bit y (s.n.count + j) ≡ fixed_bit p
  fixed j p l e f g =
      by_own (record { bit = s.n.count + j; expr = constant (fixed_bit p) })
      (port_own s s.n.count s.n.ports j p l e (record { bit = s.n.count + j; expr = constant (fixed_bit p) })
      (subst (λ (x : Dir). In (record { bit = s.n.count + j; expr = constant (fixed_bit p) }) (own_of s.class s.clock (s.n.count + j) p x)) (sym f)
      (subst (λ b. In {A = Numbered} (record { bit = s.n.count + j; expr = constant (fixed_bit p) }) (cond b [] (record { bit = s.n.count + j; expr = constant (fixed_bit p) } ∷ []))) (sym g) here)))

pub port_low : (s : Scene) (p : Port) → In p s.n.ports → s.class (port p.name) < s.n.count
port_low s p i = class_low s (port p.name) (port_role p) (a_port p i)

-- ---- instances

pub read_low : (s : Scene) (i : Instance) → In i s.n.instances → (pin : Name) → In pin (body_in s i).reads → s.class (pin_of i.name pin) < s.n.count
read_low s i li pin j =
    let p = All_is (λ (pin : Name). IsThere (terminals s.n) (pin_of i.name pin)) (body_in s i).reads (fine_pins s.n s.l s.table s.ground i li).reads pin j in
    let c = class_there s.n s.l s.table s.ground (pin_of i.name pin) p in
    let e = s.classes.each (pin_of i.name pin) c.0 c.1 in
    let w = class_below s.n s.ground.netlist (pin_of i.name pin) c.0 c.1 in
    omega (arith, e, w)

stage : (s : Scene) (i : Instance) (at : ℕ) (y : List Bool) (w : Valuation) (m : Member s i) → AgreeBelow s.n.count w.classes y → Stage s i at y w m.seat.cell
stage s i at y w m agree = record {
  listed = m.listed;
  found = m.seat.found;
  fits = m.seat.formed.function;
  known = not_opaque s i m;
  agree = agree;
  low = λ pin j. read_low s i m.listed pin j;
}

body_seat : (s : Scene) (i : Instance) (m : Member s i) → body_in s i ≡ body_of m.seat.cell m.seat.cell.function
body_seat s i m = ap body_at m.seat.found

-- the model of an instance by its name
model_found : (s : Scene) (is : List Instance) → AllDifferent (map (λ (i : Instance). i.name) is) → (i : Instance) → In i is → model_of (map member_of is) i.name ≡ Some i.model
model_found s (k ∷ is) d i j = by (In-cases i k is j) (model_found s is d.1 i) where
  by : (k ≡ i) ⊎ In i is → (In i is → model_of (map member_of is) i.name ≡ Some i.model) → cond (is_same_text k.name i.name) (Some k.model) (model_of (map member_of is) i.name) ≡ Some i.model
  by (inl e) rest =
      ap (λ b. cond b (Some k.model) (model_of (map member_of is) i.name)) ((bytes_decides k.name i.name).1 (ap (λ (x : Instance). x.name) e)) ∙ ap (λ (x : Instance). Some x.model) e
  by (inr h) rest = test (is_same_text k.name i.name) refl where
    test : (b : Bool) → is_same_text k.name i.name ≡ b → cond b (Some k.model) (model_of (map member_of is) i.name) ≡ Some i.model
    test false e = rest h
    test true e =
        let same : k.name ≡ i.name = (bytes_decides k.name i.name).0 e in
        absurd (d.0 (subst (λ (n : List ℕ). In n (map (λ (i : Instance). i.name) is)) (sym same) (In-map (λ (i : Instance). i.name) i is h)))
model_found s [] d i j = elim j [ ]

cell_found : (s : Scene) (i : Instance) (m : Member s i) → cell_at s.l (model_of (seen_net s).instances i.name) ≡ Some m.seat.cell
cell_found s i m = ap (cell_at s.l) (model_found s s.n.instances (instances_apart s) i m.listed) ∙ m.seat.found

-- the cell of a member of the netlist
seen_cell : (s : Scene) (one : Layout) (c : Cell) → In one (seen_net s).instances → cell_of s.l one.model ≡ Some c → (i : Instance) × (m : Member s i) × (member_of i ≡ one) × (m.seat.cell ≡ c)
seen_cell s one c j e =
    let r = In-map_back member_of one s.n.instances j in
    let m = member s r.0 r.1 in
    let both : Some m.seat.cell ≡ Some c = sym m.seat.found ∙ ap (λ (x : Layout). cell_of s.l x.model) r.2 ∙ e in
    (r.0, m, r.2, cc)

-- ---- from the bits to the netlist

fits_held : (s : Scene) (t : Contents) → FitsContents (seen_net s) s.l t → (i : Instance) (m : Member s i) (f : Function) → m.seat.cell.function ≡ f → FitsHeld f (t i.name)
fits_held s t fit i m (gate e) is = tt
fits_held s t fit i m (flip_flop d k) is = tt
fits_held s t fit i m (other o) is = fit (member_of i) m.seat.cell o (In-map member_of i s.n.instances m.listed) m.seat.found is
fits_held s t fit i m opaque is = tt

abbrev pub net_of_bits : Scene → List Bool → Valuation
net_of_bits s y = record { classes = take s.n.count y; inner = inner_of s y (first s) s.n.instances }

agree_taken : (n : ℕ) (y : List Bool) → AgreeBelow n (take n y) y
agree_taken n y x l = get_or-take n y x false l

is_local : (f : Function) (v xs : List Bool) → xs ≡ v → IsLocal f v xs
is_local (gate e) v xs h = tt
is_local (flip_flop d k) v xs h = tt
is_local (other m) v xs h = h
is_local opaque v xs h = tt

local_of_bits : (s : Scene) (y : List Bool) (i : Instance) (at : ℕ) → Place s (first s) s.n.instances i at → (net_of_bits s y).inner i.name ≡ local s y i at
local_of_bits s y i at p = inner_at s y (first s) s.n.instances (instances_apart s) i at p

bits_driven_in : (s : Scene) (y : List Bool) → ((d : Numbered) → In d (system s).driven → Driven y d) → (i : Instance) (at : ℕ) → Place s (first s) s.n.instances i at → (d : Numbered) → In d (body_driven s.class i.name (body_in s i) at) → Driven y d
bits_driven_in s y h i at p d j =
    h d (In-right d (port_driven s.class s.clock s.n.count s.n.ports) (classes_driven s.class s.n.count s.n.ports ++ all_driven s (first s) s.n.instances)
    (In-right d (classes_driven s.class s.n.count s.n.ports) (all_driven s (first s) s.n.instances) (driven_in s (first s) s.n.instances i at p d j)))

body_holds : (s : Scene) (y : List Bool) → ((d : Numbered) → In d (system s).driven → Driven y d) → (i : Instance) (at : ℕ) → Place s (first s) s.n.instances i at → BodyHolds (body_in s i) (local s y i at) (pins_shown s y i)
body_holds s y h i at p = holds_if s i at y (fine_over s.n s.l s.table s.ground i (placed_in s (first s) s.n.instances i at p)) (bits_driven_in s y h i at p)

count_low : (s : Scene) (held i y : List Bool) → BitsSettle (system s) held i y → s.n.count ≤ length y
count_low s held i y h = let n = names_count s in let e = h.each in omega (arith, n, e)

fixed_vdd : (p : Port) → p.name ≡ vdd → fixed_bit p ≡ true
fixed_vdd p e = ap (λ (n : Name). bytes_eq n.text (codes "vdd")) e

fixed_vss : (p : Port) → p.name ≡ vss → fixed_bit p ≡ false
fixed_vss p e = ap (λ (n : Name). bytes_eq n.text (codes "vdd")) e

no_signal : (clock : Option Name) (p : Port) → is_supply p.name.text ≡ true → is_signal clock p ≡ false
no_signal clock p e = rw e refl

no_clock_signal : (s : Scene) (name : Name) (p : Port) → s.clock ≡ Some name → p.name ≡ name → is_signal s.clock p ≡ false
no_clock_signal s name p e f =
    let clocked : is_clock s.clock p.name ≡ true = ap (λ (o : Option Name). is_clock o p.name) e ∙ subst (λ (x : Name). is_same_name name x ≡ true) (sym f) (same_name-itself name) in
    ap (λ b. not (is_supply p.name.text) && not b) clocked ∙ and_false (not (is_supply p.name.text)) where
      and_false : (b : Bool) → (b && false) ≡ false
      and_false true = refl
      and_false false = refl

pub net_settles : (s : Scene) (t : Contents) (i y : List Bool) → FitsContents (seen_net s) s.l t → BitsSettle (system s) (held_all s s.n.instances t) i y
    → NetSettles (seen_net s) s.l (net_inputs s.n s.clock) s.clock t i (net_of_bits s y)
net_settles s t i y fit h = record {
  each = length-take-le s.n.count y (count_low s (held_all s s.n.instances t) i y h);
  high = λ j. let r = In-map_back (λ (p : Port). p.name) vdd s.n.ports j in supply_bit r.0 r.1 vdd r.2 refl ∙ fixed_vdd r.0 r.2;
  low = λ j. let r = In-map_back (λ (p : Port). p.name) vss s.n.ports j in supply_bit r.0 r.1 vss r.2 refl ∙ fixed_vss r.0 r.2;
  still = still;
  inputs = sym (picked s.clock (bit y) (λ name. bit (take s.n.count y) (s.class (port name))) s.n.count s.n.ports
      (λ j p l e d g. sym (ports.same j p l e) ∙ sym (agree_taken s.n.count y (s.class (port p.name)) (low_at j p l e)))) ∙ h.inputs;
  instances = λ one c j e.
      let r = seen_cell s one c j e in
      let pl = place_of s (first s) s.n.instances r.0 r.1.listed in
      subst (λ (x : Layout). Drives (seen_net s) (net_of_bits s y) t x.name c c.function) r.2
      (subst (λ (x : Cell). Drives (seen_net s) (net_of_bits s y) t r.0.name x x.function) r.3 (instance r.0 r.1 pl.0 pl.1));
} where
  ports : PortsHold s y
  ports = ports_hold s y h.driven

  low_at : (j : ℕ) (p : Port) → j < length s.n.ports → get_or s.n.ports j p ≡ p → s.class (port p.name) < s.n.count
  low_at j p l e = port_low s p (subst (λ (x : Port). In x s.n.ports) e (In-at s.n.ports j p l))

  class_fixed : (p : Port) → In p s.n.ports → p.dir ≡ dir.In → is_signal s.clock p ≡ false → bit (take s.n.count y) (s.class (port p.name)) ≡ fixed_bit p
  class_fixed p j d g =
      let r = place_of_In s.n.ports p j in
      agree_taken s.n.count y (s.class (port p.name)) (port_low s p j) ∙ (ports_hold s y h.driven).same r.0 p r.1 (r.2 p) ∙ (ports_hold s y h.driven).fixed r.0 p r.1 (r.2 p) d g

  supply_bit : (p : Port) → In p s.n.ports → (name : Name) → p.name ≡ name → is_supply name.text ≡ true → bit (take s.n.count y) (s.class (port name)) ≡ fixed_bit p
  supply_bit p j name e sup =
      let is_sup : is_supply p.name.text ≡ true = ap (λ (n : Name). is_supply n.text) e ∙ sup in
      let d = (s.ground.condition.supplies p (In_there s.n.ports p j) is_sup).1 in
      ap (λ (n : Name). bit (take s.n.count y) (s.class (port n))) (sym e) ∙ class_fixed p j d (no_signal s.clock p is_sup)

  still : (name : Name) → s.clock ≡ Some name → bit (take s.n.count y) (s.class (port name)) ≡ false
  still name e =
      let c = clock_port s name e in
      ap (λ (n : Name). bit (take s.n.count y) (s.class (port n))) (sym c.named) ∙ class_fixed c.p c.listed c.takes (no_clock_signal s name c.p e c.named) ∙ no_vdd (bytes_eq c.p.name.text (codes "vdd")) refl c.signal where
        no_vdd : (b : Bool) → bytes_eq (clock_port s name e).p.name.text (codes "vdd") ≡ b → is_supply (clock_port s name e).p.name.text ≡ false → b ≡ false
        no_vdd false f g = refl
        no_vdd true f g = let z : is_supply (clock_port s name e).p.name.text ≡ true = rw f refl in let no : true ≡ false = sym z ∙ g in absurd cc

  instance : (k : Instance) (m : Member s k) (at : ℕ) → Place s (first s) s.n.instances k at → Drives (seen_net s) (net_of_bits s y) t k.name m.seat.cell m.seat.cell.function
  instance k m at p =
      let b = body_seat s k m in
      let held = held_split s t y (first s) s.n.instances h.stored k at p in
      drives s k at y (net_of_bits s y) t m.seat.cell m.seat.cell.function (stage s k at y (net_of_bits s y) m (agree_taken s.n.count y)) refl
      (subst (λ (x : Body). BodyHolds x (local s y k at) (pins_shown s y k)) b (body_holds s y h.driven k at p))
      (ap (λ (x : Body). map (bit y) (rising at (length x.loads))) (sym b) ∙ held ∙ ap (λ (o : Option Cell). held_at o (t k.name)) m.seat.found)
      (fits_held s t fit k m m.seat.cell.function refl)
      (is_local m.seat.cell.function (local s y k at) ((net_of_bits s y).inner k.name) (local_of_bits s y k at p))

-- ---- from the netlist to the bits

abbrev block_in : Function → List Bool → List Bool → List Bool
block_in (gate e) held inner = []
block_in (flip_flop data_pin clock_pin) held inner = bit held 0 ∷ []
block_in (other m) held inner = drop (length (inputs m)) inner
block_in opaque held inner = []

abbrev block_at_cell : Option Cell → List Bool → List Bool → List Bool
block_at_cell None held inner = []
block_at_cell (Some c) held inner = block_in c.function held inner

abbrev block : Scene → Contents → Valuation → Instance → List Bool
block s t w i = block_at_cell (cell_of s.l i.model) (t i.name) (w.inner i.name)

abbrev port_bits : Scene → Valuation → List Bool
port_bits s w = map (λ (p : Port). bit w.classes (s.class (port p.name))) s.n.ports

abbrev pub bits_of_net : Scene → Contents → Valuation → List Bool
bits_of_net s t w = (w.classes ++ port_bits s w) ++ flat_map (block s t w) s.n.instances

-- ---- both are in step

bits_cons : (s : Scene) (y : List Bool) (base : ℕ) (k : Instance) (is : List Instance)
    → map (λ (r : NumberedStorage). cond (val r.enable y) (val r.next y) (bit y r.bit)) (all_stored s base (k ∷ is))
    ≡ map (λ (r : NumberedStorage). cond (val r.enable y) (val r.next y) (bit y r.bit)) (body_stored s.class k.name (body_in s k) base)
    ++ map (λ (r : NumberedStorage). cond (val r.enable y) (val r.next y) (bit y r.bit)) (all_stored s (base + width (body_in s k)) is)
bits_cons s y base k is = map-append (λ (r : NumberedStorage). cond (val r.enable y) (val r.next y) (bit y r.bit)) (body_stored s.class k.name (body_in s k) base) (all_stored s (base + width (body_in s k)) is)

next_from : (s : Scene) (y : List Bool) (t : Contents) (base : ℕ) (is : List Instance) → ((i : Instance) (at : ℕ) → Place s base is i at → loads_next (local s y i at) y at (body_in s i).loads ≡ held_at (cell_of s.l i.model) (t i.name))
    → ((i : Instance) → In i is → In i s.n.instances)
    → map (λ (r : NumberedStorage). cond (val r.enable y) (val r.next y) (bit y r.bit)) (all_stored s base is) ≡ held_all s is t
next_from s y t base [] h inside = refl
next_from s y t base (k ∷ is) h inside =
    let o = fine_over s.n s.l s.table s.ground k (inside k here) in
    bits_cons s y base k is
    ∙ ap (λ (xs : List Bool). xs ++ map (λ (r : NumberedStorage). cond (val r.enable y) (val r.next y) (bit y r.bit)) (all_stored s (base + width (body_in s k)) is))
    (stored_next s.class k.name (body_in s k) base y base (body_in s k).loads
    (λ l j. (All_is (λ (x : Load). IsOver x.next (bits_count (body_in s k))) (body_in s k).loads o.next l j, All_is (λ (x : Load). IsOver x.enable (bits_count (body_in s k))) (body_in s k).loads o.enable l j))
    ∙ h k base at_first)
    ∙ ap (λ (xs : List Bool). held_at (cell_of s.l k.model) (t k.name) ++ xs) (next_from s y t (base + width (body_in s k)) is (λ i at p. h i at (at_next p)) (λ i j. inside i (there j)))

-- what the instances load, from bits and a valuation that agree
next_is : (s : Scene) (y : List Bool) (w : Valuation) → AgreeBelow s.n.count w.classes y → ((d : Numbered) → In d (system s).driven → Driven y d)
    → ((i : Instance) (at : ℕ) (m : Member s i) → Place s (first s) s.n.instances i at → IsLocal m.seat.cell.function (local s y i at) (w.inner i.name))
    → bits_next (system s) y ≡ held_all s s.n.instances (net_next (seen_net s) s.l w)
next_is s y w agree driven inner =
    next_from s y (net_next (seen_net s) s.l w) (first s) s.n.instances
    (λ i at p.
    let m = member s i (placed_in s (first s) s.n.instances i at p) in
    let b = body_seat s i m in
    ap (λ (x : Body). loads_next (local s y i at) y at x.loads) b
    ∙ loads s i at y w m.seat.cell m.seat.cell.function (stage s i at y w m agree) refl (subst (λ (x : Body). BodyHolds x (local s y i at) (pins_shown s y i)) b (body_holds s y driven i at p)) (inner i at m p)
    ∙ ap (λ (o : Option Cell). held_in m.seat.cell.function (next_held (seen_net s) w i.name o)) (sym (cell_found s i m))
    ∙ ap (λ (o : Option Cell). held_at o (net_next (seen_net s) s.l w i.name)) (sym m.seat.found))
    (λ i j. j)

-- ---- the bits of a netlist that has settled

pub port_driven_by : (s : Scene) (k : ℕ) (ps : List Port) (d : Numbered) → In d (port_driven s.class s.clock k ps) → (j : ℕ) × (p : Port) × (j < length ps) × (get_or ps j p ≡ p) × In d (own_of s.class s.clock (k + j) p p.dir)
port_driven_by s k [] d i = elim i [ ]
port_driven_by s k (q ∷ ps) d i = elim (In-split d (own_of s.class s.clock k q q.dir) (port_driven s.class s.clock (k + 1) ps) i) [
  | inl a ↦ let z : k ≡ k + 0 = omega arith in (0, q, omega arith, refl, subst (λ n. In d (own_of s.class s.clock n q q.dir)) z a)
  | inr a ↦ let r = port_driven_by s (k + 1) ps d a in let z : k + 1 + r.0 ≡ k + suc r.0 = omega arith in (suc r.0, r.1, (let l = r.2 in omega (arith, l)), r.3, subst (λ n. In d (own_of s.class s.clock n r.1 r.1.dir)) z r.4)
]

pub port_class_by : (s : Scene) (k : ℕ) (ps : List Port) (d : Numbered) → In d (classes_driven s.class k ps) → (j : ℕ) × (p : Port) × (j < length ps) × (get_or ps j p ≡ p) × In d (class_of_port s.class (k + j) p p.dir)
port_class_by s k [] d i = elim i [ ]
port_class_by s k (q ∷ ps) d i = elim (In-split d (class_of_port s.class k q q.dir) (classes_driven s.class (k + 1) ps) i) [
  | inl a ↦ let z : k ≡ k + 0 = omega arith in (0, q, omega arith, refl, subst (λ n. In d (class_of_port s.class n q q.dir)) z a)
  | inr a ↦ let r = port_class_by s (k + 1) ps d a in let z : k + 1 + r.0 ≡ k + suc r.0 = omega arith in (suc r.0, r.1, (let l = r.2 in omega (arith, l)), r.3, subst (λ n. In d (class_of_port s.class n r.1 r.1.dir)) z r.4)
]

-- what the cell of an instance drives
drives_at : (s : Scene) (t : Contents) (i : List Bool) (w : Valuation) → NetSettles (seen_net s) s.l (net_inputs s.n s.clock) s.clock t i w → (k : Instance) (m : Member s k) → Drives (seen_net s) w t k.name m.seat.cell m.seat.cell.function
drives_at s t i w h k m = h.instances (member_of k) m.seat.cell (In-map member_of k s.n.instances m.listed) m.seat.found

block_count_in : (s : Scene) (t : Contents) (w : Valuation) (k : Instance) (m : Member s k) (f : Function) → m.seat.cell.function ≡ f → Drives (seen_net s) w t k.name m.seat.cell f
    → length (block_in f (t k.name) (w.inner k.name)) ≡ width (body_of m.seat.cell f)
block_count_in s t w k m (gate e) is d = refl
block_count_in s t w k m (flip_flop a b) is d = refl
block_count_in s t w k m (other o) is d =
    let fits = subst (FitsPins m.seat.cell) is m.seat.formed.function in
    let n = machine_bits m.seat.cell o fits.1 in
    let l = length-drop (length (inputs o)) (w.inner k.name) in
    let e = d.0.each in
    omega (arith, n, l, e)
block_count_in s t w k m opaque is d = refl

module _ (s : Scene) (t : Contents) (i : List Bool) (w : Valuation) (h : NetSettles (seen_net s) s.l (net_inputs s.n s.clock) s.clock t i w) where
  block_count : (k : Instance) → In k s.n.instances → length (block s t w k) ≡ width (body_in s k)
  block_count k j =
      let m = member s k j in
      ap (λ (o : Option Cell). length (block_at_cell o (t k.name) (w.inner k.name))) m.seat.found
      ∙ block_count_in s t w k m m.seat.cell.function refl (drives_at s t i w h k m)
      ∙ ap width (sym (body_seat s k m))

  port_count : length (port_bits s w) ≡ length s.n.ports
  port_count = length-map s.n.ports (λ (p : Port). bit w.classes (s.class (port p.name)))

  front_count : length (w.classes ++ port_bits s w) ≡ first s
  front_count = let a = length-append w.classes (port_bits s w) in let e = h.each in let p = port_count in omega (arith, a, e, p)

  all_count : length (bits_of_net s t w) ≡ length (system s).names
  all_count =
      let a = length-append (w.classes ++ port_bits s w) (flat_map (block s t w) s.n.instances) in
      let b = blocks_count s (block s t w) s.n.instances block_count in
      let f = front_count in
      let n = names_count s in
      omega (arith, a, b, f, n)

  agree : AgreeBelow s.n.count w.classes (bits_of_net s t w)
  agree x l =
      let e = h.each in
      let f = front_count in
      sym (bit_left (w.classes ++ port_bits s w) (flat_map (block s t w) s.n.instances) x (omega (arith, l, f)) ∙ bit_left w.classes (port_bits s w) x (omega (arith, l, e)))

  port_bit : (j : ℕ) (p : Port) → j < length s.n.ports → get_or s.n.ports j p ≡ p → bit (bits_of_net s t w) (s.n.count + j) ≡ bit w.classes (s.class (port p.name))
  port_bit j p l e =
      let c = h.each in
      let f = front_count in
      let z : s.n.count + j ≡ length w.classes + j = omega (arith, c) in
      bit_left (w.classes ++ port_bits s w) (flat_map (block s t w) s.n.instances) (s.n.count + j) (omega (arith, l, f))
      ∙ ap (bit (w.classes ++ port_bits s w)) z ∙ bit_right w.classes (port_bits s w) j
      ∙ get_or-map (λ (p : Port). bit w.classes (s.class (port p.name))) s.n.ports j p false l ∙ ap (λ (x : Port). bit w.classes (s.class (port x.name))) e

  own_block : (k : Instance) (at : ℕ) → Place s (first s) s.n.instances k at → map (bit (bits_of_net s t w)) (rising at (width (body_in s k))) ≡ block s t w k
  own_block k at p = block_at s (block s t w) (w.classes ++ port_bits s w) (first s) s.n.instances block_count (sym front_count) k at p

  -- the pieces of an instance's bits, by its function
  y : List Bool
  y = bits_of_net s t w

  pieces_in : (k : Instance) (at : ℕ) (m : Member s k) → Place s (first s) s.n.instances k at → (f : Function) → m.seat.cell.function ≡ f
      → IsLocal f (local s (bits_of_net s t w) k at) (w.inner k.name) × (map (bit (bits_of_net s t w)) (rising at (length (body_of m.seat.cell f).loads)) ≡ held_in f (t k.name))
  pieces_in k at m p (gate e) is = (tt, refl)
  pieces_in k at m p (flip_flop a b) is =
      let body = body_seat s k m ∙ ap (body_of m.seat.cell) is in (
        tt,
        ap (λ (x : Body). map (bit (bits_of_net s t w)) (rising at (width x))) (sym body) ∙ own_block k at p ∙ ap (λ (o : Option Cell). block_at_cell o (t k.name) (w.inner k.name)) m.seat.found
            ∙ ap (λ (f : Function). block_in f (t k.name) (w.inner k.name)) is,
      )
  pieces_in k at m p (other o) is =
      let body = body_seat s k m ∙ ap (body_of m.seat.cell) is in
      let fits = subst (FitsPins m.seat.cell) is m.seat.formed.function in
      let d = subst (λ (f : Function). Drives (seen_net s) w t k.name m.seat.cell f) is (drives_at s t i w h k m) in
      let q = settled_pieces o (pin_bits (seen_net s) w.classes k.name (inputs o)) (t k.name) (w.inner k.name) fits.1 d.0 in
      let whole : map (bit (bits_of_net s t w)) (rising at (width (body_of m.seat.cell (other o)))) ≡ drop (length (inputs o)) (w.inner k.name) =
      ap (λ (x : Body). map (bit (bits_of_net s t w)) (rising at (width x))) (sym body) ∙ own_block k at p ∙ ap (λ (c : Option Cell). block_at_cell c (t k.name) (w.inner k.name)) m.seat.found
      ∙ ap (λ (f : Function). block_in f (t k.name) (w.inner k.name)) is in
      let reads : map (bit (bits_of_net s t w)) (map (λ (pin : Name). s.class (pin_of k.name pin)) (body_in s k).reads) ≡ pin_bits (seen_net s) w.classes k.name (inputs o) =
      reads_agree s k at (bits_of_net s t w) w m.seat.cell (stage s k at (bits_of_net s t w) w m agree) ∙ ap (λ (x : Body). pin_bits (seen_net s) w.classes k.name x.reads) body in
      let here_is : local s (bits_of_net s t w) k at ≡ w.inner k.name =
      local_pieces s (bits_of_net s t w) k at ∙ ap (λ (xs : List Bool). xs ++ map (bit (bits_of_net s t w)) (rising at (width (body_in s k)))) reads
      ∙ ap (λ (x : Body). pin_bits (seen_net s) w.classes k.name (inputs o) ++ map (bit (bits_of_net s t w)) (rising at (width x))) body
      ∙ ap (λ (xs : List Bool). pin_bits (seen_net s) w.classes k.name (inputs o) ++ xs) whole ∙ sym q.1 in
      let n : length (body_of m.seat.cell (other o)).loads ≡ length o.registers = length-map o.registers (λ (r : Register). record { next = r.next; enable = r.enable }) in
      let held_len : length (t k.name) ≡ length o.registers = ap length (sym d.0.registers) ∙ length-map (register_names o) (value_at o.vars (w.inner k.name)) ∙ length-map o.registers (λ (r : Register). r.name) in
      let lr = length (body_of m.seat.cell (other o)).loads in
      let lq = length (body_of m.seat.cell (other o)).inner in
      let cut : map (bit (bits_of_net s t w)) (rising at lr) ≡ take (length o.registers) (map (bit (bits_of_net s t w)) (rising at (lr + lq))) =
      sym (ap (λ (xs : List ℕ). take (length o.registers) (map (bit (bits_of_net s t w)) xs)) (rising_split at lr lq)
      ∙ ap (take (length o.registers)) (map-append (bit (bits_of_net s t w)) (rising at lr) (rising (at + lr) lq))
      ∙ take_front (map (bit (bits_of_net s t w)) (rising at lr)) (map (bit (bits_of_net s t w)) (rising (at + lr) lq)) (length o.registers) (sym n ∙ sym (length-map (rising at lr) (bit (bits_of_net s t w)) ∙ rising_count at lr))) in (
        sym here_is,
        cut ∙ ap (take (length o.registers)) whole ∙ q.2 ∙ sym (held_itself o (t k.name) held_len),
      )
  pieces_in k at m p opaque is = (tt, refl)

  holds_at : (k : Instance) (at : ℕ) → Place s (first s) s.n.instances k at → BodyHolds (body_in s k) (local s (bits_of_net s t w) k at) (pins_shown s (bits_of_net s t w) k)
  holds_at k at p =
      let m = member s k (placed_in s (first s) s.n.instances k at p) in
      let q = pieces_in k at m p m.seat.cell.function refl in
      subst (λ (x : Body). BodyHolds x (local s (bits_of_net s t w) k at) (pins_shown s (bits_of_net s t w) k)) (sym (body_seat s k m))
      (holds s k at (bits_of_net s t w) w t m.seat.cell m.seat.cell.function (stage s k at (bits_of_net s t w) w m agree) refl (drives_at s t i w h k m) q.1 q.0)

  class_bit : (p : Port) → In p s.n.ports → bit (bits_of_net s t w) (s.class (port p.name)) ≡ bit w.classes (s.class (port p.name))
  class_bit p j = sym (agree (s.class (port p.name)) (port_low s p j))

  listed_at : (j : ℕ) (p : Port) → j < length s.n.ports → get_or s.n.ports j p ≡ p → In p s.n.ports
  listed_at j p l e = subst (λ (x : Port). In x s.n.ports) e (In-at s.n.ports j p l)

  -- a port that is no signal has its fixed bit
  fixed_at : (p : Port) → In p s.n.ports → is_signal s.clock p ≡ false → bit w.classes (s.class (port p.name)) ≡ fixed_bit p
  fixed_at p j g = by (is_supply p.name.text) refl where
    clock_bit : (o : Option Name) → s.clock ≡ o → is_clock o p.name ≡ true → bit w.classes (s.class (port p.name)) ≡ false
    clock_bit None e f = absurd cc
    clock_bit (Some name) e f =
        let same = same_name-true name p.name f in
        ap (λ (n : Name). bit w.classes (s.class (port n))) (sym same) ∙ h.still name e

    no_vdd : (b : Bool) → bytes_eq p.name.text (codes "vdd") ≡ b → is_supply p.name.text ≡ false → b ≡ false
    no_vdd false f e = refl
    no_vdd true f e = let z : is_supply p.name.text ≡ true = rw f refl in let no : true ≡ false = sym z ∙ e in absurd cc

    clocked : (a b : Bool) → a ≡ false → (not a && not b) ≡ false → b ≡ true
    clocked false true e f = refl
    clocked false false e f = absurd cc
    clocked true b e f = absurd cc

    by : (b : Bool) → is_supply p.name.text ≡ b → bit w.classes (s.class (port p.name)) ≡ fixed_bit p
    by true e =
        let bare = (s.ground.condition.supplies p (In_there s.n.ports p j) e).0 in
        elim (supply_name p.name bare e) [
          | inl v ↦ ap (λ (n : Name). bit w.classes (s.class (port n))) v ∙ h.high (subst (λ (n : Name). In n (map (λ (q : Port). q.name) s.n.ports)) v (In-map (λ (q : Port). q.name) p s.n.ports j)) ∙ sym (fixed_vdd p v)
          | inr v ↦ ap (λ (n : Name). bit w.classes (s.class (port n))) v ∙ h.low (subst (λ (n : Name). In n (map (λ (q : Port). q.name) s.n.ports)) v (In-map (λ (q : Port). q.name) p s.n.ports j)) ∙ sym (fixed_vss p v)
        ]
    by false e = clock_bit s.clock refl (clocked (is_supply p.name.text) (is_clock s.clock p.name) e g) ∙ sym (no_vdd (bytes_eq p.name.text (codes "vdd")) refl e)

  all_hold : (d : Numbered) → In d (system s).driven → Driven (bits_of_net s t w) d
  all_hold d a = elim (In-split d (port_driven s.class s.clock s.n.count s.n.ports) (classes_driven s.class s.n.count s.n.ports ++ all_driven s (first s) s.n.instances) a) [
    | inl b ↦ let r = port_driven_by s s.n.count s.n.ports d b in own r.0 r.1 r.2 r.3 r.1.dir refl r.4
    | inr b ↦ elim (In-split d (classes_driven s.class s.n.count s.n.ports) (all_driven s (first s) s.n.instances) b) [
      | inl c ↦ let r = port_class_by s s.n.count s.n.ports d c in class r.0 r.1 r.2 r.3 r.1.dir r.4
      | inr c ↦
          let r = driven_by s (first s) s.n.instances d c in
          driven_if s r.i r.at (bits_of_net s t w) (fine_over s.n s.l s.table s.ground r.i (placed_in s (first s) s.n.instances r.i r.at r.place)) (holds_at r.i r.at r.place) d r.among
    ]
  ] where
    one : (x : Numbered) → Driven (bits_of_net s t w) x → In d (x ∷ []) → Driven (bits_of_net s t w) d
    one x v j = elim (In-cases d x [] j) [ inl same ↦ subst (Driven (bits_of_net s t w)) same v | inr g ↦ absurd (elim g [ ]) ]

    own : (j : ℕ) (p : Port) → j < length s.n.ports → get_or s.n.ports j p ≡ p → (e : Dir) → p.dir ≡ e → In d (own_of s.class s.clock (s.n.count + j) p e) → Driven (bits_of_net s t w) d
    own j p l e dir.Out f b = one (record { bit = s.n.count + j; expr = variable (s.class (port p.name)) }) (port_bit j p l e ∙ sym (class_bit p (listed_at j p l e))) b
    own j p l e dir.In f b = fixed (is_signal s.clock p) refl b where
      fixed : (z : Bool) → is_signal s.clock p ≡ z → In d (cond z [] (record { bit = s.n.count + j; expr = constant (fixed_bit p) } ∷ [])) → Driven (bits_of_net s t w) d
      fixed true g b = absurd (elim b [ ])
      fixed false g b = one (record { bit = s.n.count + j; expr = constant (fixed_bit p) }) (port_bit j p l e ∙ fixed_at p (listed_at j p l e) g) b

    class : (j : ℕ) (p : Port) → j < length s.n.ports → get_or s.n.ports j p ≡ p → (e : Dir) → In d (class_of_port s.class (s.n.count + j) p e) → Driven (bits_of_net s t w) d
    class j p l e dir.In b = one (record { bit = s.class (port p.name); expr = variable (s.n.count + j) }) (class_bit p (listed_at j p l e) ∙ sym (port_bit j p l e)) b
    class j p l e dir.Out b = absurd (elim b [ ])

  pub bits_settle : BitsSettle (system s) (held_all s s.n.instances t) i (bits_of_net s t w)
  bits_settle = record {
    each = all_count;
    inputs = picked s.clock (bit (bits_of_net s t w)) (λ name. bit w.classes (s.class (port name))) s.n.count s.n.ports (λ j p l e d g. port_bit j p l e) ∙ h.inputs;
    stored = held_join s t (bits_of_net s t w) (first s) s.n.instances
        (λ k at p.
        let m = member s k (placed_in s (first s) s.n.instances k at p) in
        ap (λ (x : Body). map (bit (bits_of_net s t w)) (rising at (length x.loads))) (body_seat s k m) ∙ (pieces_in k at m p m.seat.cell.function refl).1
        ∙ ap (λ (o : Option Cell). held_at o (t k.name)) (sym m.seat.found));
    driven = all_hold;
  }

-- ---- contents

zero_in : (c : Cell) (f : Function) → held_in f (zeros f) ≡ replicate (length (body_of c f).loads) false
zero_in c (gate e) = refl
zero_in c (flip_flop d k) = refl
zero_in c (other m) =
    held_itself m (replicate (length m.registers) false) (length-replicate (length m.registers) false)
    ∙ ap (λ n. replicate n false) (sym (length-map m.registers (λ (r : Register). record { next = r.next; enable = r.enable })))
zero_in c opaque = refl

replicate_append : (m n : ℕ) → replicate m false ++ replicate n false ≡ replicate (m + n) false
replicate_append zero n = let e : n ≡ 0 + n = omega arith in ap (λ k. replicate k false) e
replicate_append (suc m) n = let e : suc (m + n) ≡ suc m + n = omega arith in ap (λ (xs : List Bool). false ∷ xs) (replicate_append m n) ∙ ap (λ k. replicate k false) e

stored_from_count : (table : List ℕ) (k : ℕ) (ls : List Load) → length (stored_from table k ls) ≡ length ls
stored_from_count table k [] = refl
stored_from_count table k (l ∷ ls) = let r = stored_from_count table (k + 1) ls in omega (arith, r)

held_all_count : (s : Scene) (t : Contents) (base : ℕ) (is : List Instance) → length (held_all s is t) ≡ length (all_stored s base is)
held_all_count s t base [] = refl
held_all_count s t base (k ∷ is) =
    let a = length-append (held_at (cell_of s.l k.model) (t k.name)) (held_all s is t) in
    let b = length-append (body_stored s.class k.name (body_in s k) base) (all_stored s (base + width (body_in s k)) is) in
    let c = held_count (cell_of s.l k.model) (t k.name) in
    let d = stored_from_count (numbers s.class k.name (body_in s k) base) base (body_in s k).loads in
    let r = held_all_count s t (base + width (body_in s k)) is in
    omega (arith, a, b, c, d, r)

zeros_at : (s : Scene) (i : Instance) (m : Member s i) → no_contents (seen_net s) s.l i.name ≡ zeros m.seat.cell.function
zeros_at s i m = ap zeros_of (cell_found s i m)

all_zero : (s : Scene) (base : ℕ) (is : List Instance) → ((i : Instance) → In i is → In i s.n.instances) → held_all s is (no_contents (seen_net s) s.l) ≡ replicate (length (all_stored s base is)) false
all_zero s base [] inside = refl
all_zero s base (k ∷ is) inside =
    let m = member s k (inside k here) in
    let b = length-append (body_stored s.class k.name (body_in s k) base) (all_stored s (base + width (body_in s k)) is) in
    let d = stored_from_count (numbers s.class k.name (body_in s k) base) base (body_in s k).loads in
    let n : length (body_in s k).loads + length (all_stored s (base + width (body_in s k)) is) ≡ length (all_stored s base (k ∷ is)) = omega (arith, b, d) in
    ap (λ (o : Option Cell). held_at o (no_contents (seen_net s) s.l k.name) ++ held_all s is (no_contents (seen_net s) s.l)) m.seat.found
    ∙ ap (λ (xs : List Bool). held_in m.seat.cell.function xs ++ held_all s is (no_contents (seen_net s) s.l)) (zeros_at s k m)
    ∙ ap (λ (xs : List Bool). xs ++ held_all s is (no_contents (seen_net s) s.l)) (zero_in m.seat.cell m.seat.cell.function ∙ ap (λ (x : Body). replicate (length x.loads) false) (sym (body_seat s k m)))
    ∙ ap (λ (xs : List Bool). replicate (length (body_in s k).loads) false ++ xs) (all_zero s (base + width (body_in s k)) is (λ i j. inside i (there j)))
    ∙ replicate_append (length (body_in s k).loads) (length (all_stored s (base + width (body_in s k)) is))
    ∙ ap (λ j. replicate j false) n

starts_fit : (s : Scene) → FitsContents (seen_net s) s.l (no_contents (seen_net s) s.l)
starts_fit s one c o j e is =
    let r = seen_cell s one c j e in
    let f : r.1.seat.cell.function ≡ other o = ap (λ (x : Cell). x.function) r.3 ∙ is in
    ap (λ (x : Layout). length (no_contents (seen_net s) s.l x.name)) (sym r.2) ∙ ap length (zeros_at s r.0 r.1 ∙ ap zeros f) ∙ length-replicate (length o.registers) false

next_fits : (s : Scene) (w : Valuation) → FitsContents (seen_net s) s.l (net_next (seen_net s) s.l w)
next_fits s w one c o j e is =
    let r = seen_cell s one c j e in
    let f : r.1.seat.cell.function ≡ other o = ap (λ (x : Cell). x.function) r.3 ∙ is in
    ap (λ (x : Layout). length (net_next (seen_net s) s.l w x.name)) (sym r.2)
    ∙ ap (λ (x : Option Cell). length (next_held (seen_net s) w r.0.name x)) (cell_found s r.0 r.1)
    ∙ ap (λ (x : Function). length (loaded (seen_net s) w r.0.name x)) f
    ∙ length-map o.registers (λ (q : Register). cond (val q.enable (w.inner r.0.name)) (val q.next (w.inner r.0.name)) (value_at o.vars (w.inner r.0.name) q.name))

-- what the instances hold, as the netlist is seen
held_same : (s : Scene) (t : Contents) (is : List Instance) → held_all s is t ≡ held_by s.l (map member_of is) t
held_same s t [] = refl
held_same s t (i ∷ is) = ap (λ (xs : List Bool). held_at (cell_of s.l i.model) (t i.name) ++ xs) (held_same s t is)

-- ---- in step

value_absent : (names : List Name) (x : List Bool) (n : Name) → (In n names → ⊥) → value_at names x n ≡ false
value_absent [] x n h = refl
value_absent (m ∷ names) [] n h = refl
value_absent (m ∷ names) (b ∷ x) n h =
    ap (λ t. cond t b (value_at names x n)) (same_name-false m n (λ e. h (subst (λ (z : Name). In n (z ∷ names)) (sym e) here))) ∙ value_absent names x n (λ i. h (there i))

show_alike : (s : Scene) (text : List ℕ) (m : Machine) (w : Valuation) (x : List Bool) → IsMachineOfBits text (signal_ports s.n.ports) s.clock (system s) m → AgreeBelow s.n.count w.classes (bits_shown (system s) m x)
    → PortsHold s (bits_shown (system s) m x) → ((name : Name) → s.clock ≡ Some name → bit w.classes (s.class (port name)) ≡ false) → ShowAlike (seen_net s) m w x
show_alike s text m w x is agree ports still name j =
    let r = In-map_back (λ (p : Port). p.name) name m.ports j in
    let f = In-filter (λ (p : Port). not (is_supply p.name.text)) s.n.ports r.0 (subst (λ (ps : List Port). In r.0 ps) is.ports_are r.1) in
    ap (λ (n : Name). bit w.classes (s.class (port n))) (sym r.2) ∙ by r.0 f.0 (no_supply (is_supply r.0.name.text) f.1) (is_clock s.clock r.0.name) refl ∙ ap (value_at m.vars x) r.2 where
      no_supply : (b : Bool) → not b ≡ true → b ≡ false
      no_supply true e = absurd cc
      no_supply false e = refl

      clocked : (p : Port) (o : Option Name) → s.clock ≡ o → is_clock o p.name ≡ true → bit w.classes (s.class (port p.name)) ≡ value_at m.vars x p.name
      clocked p None e t = absurd cc
      clocked p (Some c) e t =
          let same = same_name-true c p.name t in
          ap (λ (n : Name). bit w.classes (s.class (port n))) (sym same) ∙ still c e
          ∙ sym (value_absent m.vars x c ((is.checked.clock c (is.clock_is ∙ e)).apart)) ∙ ap (value_at m.vars x) same

      by : (p : Port) → In p s.n.ports → is_supply p.name.text ≡ false → (b : Bool) → is_clock s.clock p.name ≡ b → bit w.classes (s.class (port p.name)) ≡ value_at m.vars x p.name
      by p i g true e = clocked p s.clock refl e
      by p i g false e =
          let q = place_of_In s.n.ports p i in
          let signal : is_signal s.clock p ≡ true = rw (g, e) refl in
          let n = names_count s in
          let named : name_at (system s).names (s.n.count + q.0) ≡ p.name = name_of_port s q.0 p q.1 (q.2 p) ∙ ap (λ b. cond b p.name (own_name s.text (s.n.count + q.0))) signal in
          agree (s.class (port p.name)) (port_low s p i) ∙ ports.same q.0 p q.1 (q.2 p)
          ∙ shown_at (system s).names m.vars x (s.n.count + q.0) (let l = q.1 in omega (arith, l, n)) ∙ ap (value_at m.vars x) named

machine_inputs_are : (s : Scene) (text : List ℕ) (m : Machine) → IsMachineOfBits text (signal_ports s.n.ports) s.clock (system s) m → inputs m ≡ net_inputs s.n s.clock
machine_inputs_are s text m is = ap (λ (c : Option Name). inputs_of c m.ports) is.clock_is ∙ ap (inputs_of s.clock) is.ports_are

as_machine : (s : Scene) (text : List ℕ) (m : Machine) → IsMachineOfBits text (signal_ports s.n.ports) s.clock (system s) m → (t : Contents) (i : List Bool) (w : Valuation)
    → NetSettles (seen_net s) s.l (net_inputs s.n s.clock) s.clock t i w → NetSettles (seen_net s) s.l (inputs m) m.clock t i w
as_machine s text m is t i w h =
    subst (λ (ns : List Name). NetSettles (seen_net s) s.l ns m.clock t i w) (sym (machine_inputs_are s text m is))
    (subst (λ (c : Option Name). NetSettles (seen_net s) s.l (net_inputs s.n s.clock) c t i w) (sym is.clock_is) h)

of_machine : (s : Scene) (text : List ℕ) (m : Machine) → IsMachineOfBits text (signal_ports s.n.ports) s.clock (system s) m → (t : Contents) (i : List Bool) (w : Valuation)
    → NetSettles (seen_net s) s.l (inputs m) m.clock t i w → NetSettles (seen_net s) s.l (net_inputs s.n s.clock) s.clock t i w
of_machine s text m is t i w h =
    subst (λ (c : Option Name). NetSettles (seen_net s) s.l (net_inputs s.n s.clock) c t i w) is.clock_is
    (subst (λ (ns : List Name). NetSettles (seen_net s) s.l ns m.clock t i w) (machine_inputs_are s text m is) h)

pub keeps_step : (s : Scene) (text : List ℕ) (m : Machine) → IsMachineOfBits text (signal_ports s.n.ports) s.clock (system s) m → KeepsStep (seen_net s) s.l m
keeps_step s text m is = record {
  held = held_all s s.n.instances;
  bits = λ x. take s.n.count (bits_shown (system s) m x);
  each = λ t. held_all_count s t (first s) s.n.instances ∙ sym is.registers;
  start = all_zero s (first s) s.n.instances (λ i j. j) ∙ ap (λ n. replicate n false) (sym is.registers);
  starts = starts_fit s;
  stays = next_fits s;
  forth = forth;
  back = back;
} where
  back : (t : Contents) (i x : List Bool) → FitsContents (seen_net s) s.l t → Settles m (held_all s s.n.instances t) i x
      → (w : Valuation) × AreInStep (seen_net s) s.l m (held_all s s.n.instances) (λ x. take s.n.count (bits_shown (system s) m x)) t i w x
  back t i x fit h =
      let y = bits_shown (system s) m x in
      let settles = is.forth (held_all s s.n.instances t) i x h in
      let n = net_settles s t i y fit settles in (
        net_of_bits s y,
        record {
          net = as_machine s text m is t i (net_of_bits s y) n;
          machine = h;
          classes = refl;
          ports = show_alike s text m (net_of_bits s y) x is (agree_taken s.n.count y) (ports_hold s y settles.driven) n.still;
          loads = is.loads (held_all s s.n.instances t) i x h
              ∙ next_is s y (net_of_bits s y) (agree_taken s.n.count y) settles.driven (λ k at m p. is_local m.seat.cell.function (local s y k at) ((net_of_bits s y).inner k.name) (local_of_bits s y k at p));
        },
      )

  forth : (t : Contents) (i : List Bool) (w : Valuation) → NetSettles (seen_net s) s.l (inputs m) m.clock t i w
      → (x : List Bool) × AreInStep (seen_net s) s.l m (held_all s s.n.instances) (λ x. take s.n.count (bits_shown (system s) m x)) t i w x
  forth t i w g =
      let h = of_machine s text m is t i w g in
      let settles = bits_settle s t i w h in
      let b = is.back (held_all s s.n.instances t) i (bits_of_net s t w) settles in
      let e : bits_of_net s t w ≡ bits_shown (system s) m b.0 = sym b.2 in
      let shown_settles : BitsSettle (system s) (held_all s s.n.instances t) i (bits_shown (system s) m b.0) = subst (λ (y : List Bool). BitsSettle (system s) (held_all s s.n.instances t) i y) e settles in
      let agree_shown : AgreeBelow s.n.count w.classes (bits_shown (system s) m b.0) = subst (λ (y : List Bool). AgreeBelow s.n.count w.classes y) e (agree s t i w h) in (
        b.0,
        record {
          net = g;
          machine = b.1;
          classes = sym (ap (take s.n.count) b.2 ∙ ap (take s.n.count) (append_assoc w.classes (port_bits s w) (flat_map (block s t w) s.n.instances)) ∙ take_front w.classes (port_bits s w ++ flat_map (block s t w) s.n.instances) s.n.count (sym h.each));
          ports = show_alike s text m w b.0 is agree_shown (ports_hold s (bits_shown (system s) m b.0) shown_settles.driven) h.still;
          loads = is.loads (held_all s s.n.instances t) i b.0 b.1 ∙ ap (bits_next (system s)) b.2
              ∙ next_is s (bits_of_net s t w) w (agree s t i w h) settles.driven (λ k at m p. (pieces_in s t i w h k at m p m.seat.cell.function refl).0);
        },
      )

-- what the machine holds is what the instances hold, one after another
pub keeps_order : (s : Scene) (text : List ℕ) (m : Machine) (is : IsMachineOfBits text (signal_ports s.n.ports) s.clock (system s) m) (t : Contents)
    → KeepsStep.held (keeps_step s text m is) t ≡ held_by s.l (map member_of s.n.instances) t
unfolding keeps_step
keeps_order s text m is t = held_same s t s.n.instances
