-- The machine of a netlist, with the names of its instances for its registers.
use Rattle.std.proofs.Common.{◌≡◌, ◌⊎◌, inl, inr, ℕ, zero, suc, ◌+◌, ◌<◌, Bool, true, false, List, [], ◌∷◌, ◌++◌, map, length, get_or, replicate, Option, None, Some, refl, sym, ap, ◌∙◌, subst, arith}
use Rattle.std.specs.Prelude.{slice_index, ◌↔◌}
use Rattle.std.specs.List.{flat_map}
use Rattle.std.specs.List.Sorted.{IsPermutation}
use Rattle.std.proofs.lemmas.List.{length-map, get_or-map}
use Rattle.std.proofs.lemmas.List.Sorted.{IsPermutation-sym}
use Rattle.vlsi_base.specs.declared.name.Name.{Name}
use Rattle.vlsi_base.specs.declared.name.Port.{Port}
use Rattle.vlsi_base.specs.Names.{scalar, vdd, vss}
use Rattle.vlsi_base.specs.Range.{rising}
use Rattle.vlsi_base.specs.Member.{In, here, there, AllDifferent}
use Rattle.bool_expr.specs.Expression.{bit}
use Rattle.machine_core.specs.Named.{value_at}
use Rattle.machine_core.specs.Machine.{Machine, Register, inputs, names_of, register_names}
use Rattle.machine_core.specs.Cycles.{Settles, next}
use Rattle.machine_core.specs.Order.{SettlesOnce}
use Rattle.machine_core.specs.Checked.{IsChecked, IsNoSupply}
use Rattle.machine_core.proofs.Values.{In-map}
use Rattle.vlsi_model.specs.Numbered.{name_at}
use Rattle.vlsi_model.specs.Laid.{inputs_of}
use Rattle.vlsi_model.proofs.Members.{In-map_back, different_append}
use Rattle.vlsi_model.proofs.Bits.{In-rising, rising-In}
use Rattle.vlsi_model.proofs.Sorting.{In-at, place_of_In}
use Rattle.vlsi_model.proofs.Building.{map-then, map_same}
use Rattle.vlsi_model.proofs.Assembly.{In-permutation}
use Rattle.cell_model.specs.Cell.{Function, gate, flip_flop, other, opaque, Cell}
use Rattle.cell_model.specs.Library.{Library, cell_of}
use Rattle.cell_pins.specs.Table.{IsTableOf}
use Rattle.net_core.specs.declared.pins.ModelPins.{ModelPins}
use Rattle.net_core.specs.Places.{Stands, IsThere}
use Rattle.net_core.specs.Netlist.{Instance, Netlist as InMemory}
use Rattle.net_meaning.specs.Netlist.{Member, AbstractNetlist}
use Rattle.net_meaning.specs.Behaviour.{Contents, Valuation, NetSettles, model_of, cell_at, net_next}
use Rattle.net_right.specs.Condition.{MeetsCondition}
use Rattle.net_right.specs.View.{IsSeenAs, member_of}
use Rattle.net_machine.specs.Step.{held_in, held_at, held_by, FitsContents, zeros, zeros_of, no_contents, ShowAlike, AreInStep, KeepsStep, IsMachineOfNetlist, IsMachineInOrder, IsInOrderWith}
use Rattle.net_machine.specs.Signals.{IsClockPort}
use Rattle.net_machine.proofs.Drivers.{In_there}
use Rattle.net_flat.specs.declared.parts.Part.{Part}
use Rattle.net_flat.specs.declared.parts.Part.TheVariants as part
use Rattle.net_flat.specs.Parts.{part_of, part_at, names_if, registers_of}
use Rattle.net_flat.specs.Flat.{IsOther, IsPlain, held_by_name, IsFlat, IsFlatWith}
use Rattle.net_flat.specs.Renamed.{IsRenamed, ComesTo}

-- ---- what instances hold

abbrev held_bit : Contents → Name → Bool
held_bit t n = bit (t n.text) 0

-- an instance holds a bit exactly where it is a register
held_here : (l : Library) (i : Instance) (t : Contents) → (IsOther l i.model → ⊥) → held_at (cell_of l i.model) (t i.name) ≡ map (held_bit t) (names_if (part_at (cell_of l i.model)) i)
held_here l i t plain = by (cell_of l i.model) refl where
  of_function : (c : Cell) (f : Function) → cell_of l i.model ≡ Some c → c.function ≡ f → held_in f (t i.name) ≡ map (held_bit t) (names_if (part_of f) i)
  of_function c (gate e) found is = refl
  of_function c (flip_flop d k) found is = refl
  of_function c (other m) found is = absurd (plain (record { cell = c; found = found; is = ap part_of is }))
  of_function c opaque found is = absurd (plain (record { cell = c; found = found; is = ap part_of is }))

  by : (o : Option Cell) → cell_of l i.model ≡ o → held_at o (t i.name) ≡ map (held_bit t) (names_if (part_at o) i)
  by None e = refl
  by (Some c) e = of_function c c.function e refl

map_append : (f : Name → Bool) (xs ys : List Name) → map f (xs ++ ys) ≡ map f xs ++ map f ys
map_append f [] ys = refl
map_append f (x ∷ xs) ys = ap (λ (bs : List Bool). f x ∷ bs) (map_append f xs ys)

held_are : (l : Library) (is : List Instance) (t : Contents) → ((i : Instance) → In i is → IsOther l i.model → ⊥) → held_by l (map member_of is) t ≡ map (held_bit t) (registers_of l is)
held_are l [] t plain = refl
held_are l (i ∷ is) t plain =
    ap (λ (xs : List Bool). xs ++ held_by l (map member_of is) t) (held_here l i t (plain i here))
    ∙ ap (λ (xs : List Bool). map (held_bit t) (names_if (part_at (cell_of l i.model)) i) ++ xs) (held_are l is t (λ j h. plain j (there h)))
    ∙ sym (map_append (held_bit t) (names_if (part_at (cell_of l i.model)) i) (registers_of l is))

plain_in : (n : InMemory) (l : Library) → IsPlain n l → (i : Instance) → In i n.instances → IsOther l i.model → ⊥
plain_in n l plain i j = plain i (In_there n.instances i j)

no_zero : (o : Option Cell) → bit (zeros_of o) 0 ≡ false
no_zero None = refl
no_zero (Some c) = by c.function where
  first : (k : ℕ) → bit (replicate k false) 0 ≡ false
  first zero = refl
  first (suc k) = refl

  by : (f : Function) → bit (zeros f) 0 ≡ false
  by (gate e) = refl
  by (flip_flop d k) = refl
  by (other m) = first (length m.registers)
  by opaque = refl

all_false : {A : Type 0} (f : A → Bool) (xs : List A) → ((x : A) → f x ≡ false) → map f xs ≡ replicate (length xs) false
all_false f [] h = refl
all_false f (x ∷ xs) h = ap (λ b. b ∷ map f xs) (h x) ∙ ap (λ (bs : List Bool). false ∷ bs) (all_false f xs h)

-- there are as many as the machine has registers
pub names_each : (n : InMemory) (l : Library) (table : List ModelPins) (m : Machine) → IsPlain n l → (is : IsMachineInOrder n l table m) → (k : AbstractNetlist) (seen : IsSeenAs n k)
    → length (registers_of l n.instances) ≡ length m.registers
names_each n l table m plain is k seen =
    let none : Contents = λ owner. [] in
    sym (length-map (registers_of l n.instances) (held_bit none)) ∙ sym (ap length (held_are l n.instances none (plain_in n l plain)))
    ∙ ap (λ (v : AbstractNetlist). length (held_by l v.instances none)) (sym seen.is) ∙ sym (ap length (is.holds k seen none)) ∙ KeepsStep.each (is.of_netlist.step k seen) none

-- ---- the machine with the instances' names

module _ (once : SettlesOnce) (n : InMemory) (l : Library) (table : List ModelPins) (m o : Machine) (checked : IsChecked m) (plain : IsPlain n l) (is : IsMachineInOrder n l table m)
    (renamed : IsRenamed m (registers_of l n.instances) o) where
  abbrev names : List Name
  names = registers_of l n.instances

  inputs_same : inputs o ≡ inputs m
  inputs_same = ap (λ (c : Option Name). inputs_of c o.ports) renamed.clock ∙ ap (inputs_of m.clock) renamed.ports

  fits : (k : AbstractNetlist) → IsSeenAs n k → (t : Contents) → FitsContents k l t
  fits k seen t one c x j found is_other =
      let r = In-map_back member_of one n.instances (subst (λ (v : AbstractNetlist). In one v.instances) seen.is j) in
      absurd (plain_in n l plain r.0 r.1 (record { cell = c; found = ap (λ (w : Member). cell_of l w.model) r.2 ∙ found; is = ap part_of is_other }))

  held_names : (k : AbstractNetlist) (seen : IsSeenAs n k) (t : Contents) → KeepsStep.held (is.of_netlist.step k seen) t ≡ map (held_bit t) names
  held_names k seen t =
      is.holds k seen t ∙ ap (λ (v : AbstractNetlist). held_by l v.instances t) seen.is ∙ held_are l n.instances t (plain_in n l plain)

  place_low : (p : ℕ) → In p renamed.places → p < length names
  place_low p i = let l = (In-rising 0 (length names) p (In-permutation renamed.places (rising 0 (length names)) p (IsPermutation-sym (rising 0 (length names)) renamed.places renamed.moved) i)).1 in omega (arith, l)

  -- what the registers hold, by their names
  by_name : (k : AbstractNetlist) (seen : IsSeenAs n k) (t : Contents) → map (bit (KeepsStep.held (is.of_netlist.step k seen) t)) renamed.places ≡ held_by_name o t
  by_name k seen t =
      ap (λ (hs : List Bool). map (bit hs) renamed.places) (held_names k seen t)
      ∙ map_same (bit (map (held_bit t) names)) (λ p. held_bit t (name_at names p)) renamed.places
      (λ p i. get_or-map (held_bit t) names p (record { text = []; bit = None }) false (place_low p i))
      ∙ sym (map-then (held_bit t) (name_at names) renamed.places) ∙ ap (map (held_bit t)) (sym renamed.named) ∙ map-then (held_bit t) (λ (r : Register). r.name) o.registers

  count : (k : AbstractNetlist) (seen : IsSeenAs n k) (t : Contents) → length (KeepsStep.held (is.of_netlist.step k seen) t) ≡ length m.registers
  count k seen t = KeepsStep.each (is.of_netlist.step k seen) t

  module _ (k : AbstractNetlist) (seen : IsSeenAs n k) where
    abbrev old : KeepsStep k l m
    old = is.of_netlist.step k seen

    abbrev bits : List Bool → List Bool
    bits y = KeepsStep.bits (is.of_netlist.step k seen) (renamed.shown y)

    as_new : (t : Contents) (i : List Bool) (w : Valuation) → NetSettles k l (inputs m) m.clock t i w → NetSettles k l (inputs o) o.clock t i w
    as_new t i w h =
        subst (λ (ns : List Name). NetSettles k l ns o.clock t i w) (sym inputs_same) (subst (λ (c : Option Name). NetSettles k l (inputs m) c t i w) (sym renamed.clock) h)

    as_old : (t : Contents) (i : List Bool) (w : Valuation) → NetSettles k l (inputs o) o.clock t i w → NetSettles k l (inputs m) m.clock t i w
    as_old t i w h = subst (λ (c : Option Name). NetSettles k l (inputs m) c t i w) renamed.clock (subst (λ (ns : List Name). NetSettles k l ns o.clock t i w) inputs_same h)

    in_step : (t : Contents) (i : List Bool) (w : Valuation) (x : List Bool) → AreInStep k l m (KeepsStep.held (is.of_netlist.step k seen)) (KeepsStep.bits (is.of_netlist.step k seen)) t i w x
        → (y : List Bool) × AreInStep k l o (held_by_name o) bits t i w y
    in_step t i w x h =
        let c = renamed.forth (KeepsStep.held (is.of_netlist.step k seen) t) i x h.machine in (
          c.0,
          record {
            net = as_new t i w h.net;
            machine = subst (λ (s : List Bool). Settles o s i c.0) (by_name k seen t) c.1.settles;
            classes = h.classes ∙ ap (KeepsStep.bits (is.of_netlist.step k seen)) (sym c.1.back);
            ports = λ name j. let j2 = subst (λ (ps : List Port). In name (names_of ps)) renamed.ports j in h.ports name j2 ∙ sym (c.1.ports name j2);
            loads = c.1.loads ∙ ap (λ (s : List Bool). map (bit s) renamed.places) h.loads ∙ by_name k seen (net_next k l w);
          },
        )

    forth : (t : Contents) (i : List Bool) (w : Valuation) → NetSettles k l (inputs o) o.clock t i w → (y : List Bool) × AreInStep k l o (held_by_name o) bits t i w y
    forth t i w h = let a = KeepsStep.forth (is.of_netlist.step k seen) t i w (as_old t i w h) in in_step t i w a.0 a.1

    back : (t : Contents) (i y : List Bool) → FitsContents k l t → Settles o (held_by_name o t) i y → (w : Valuation) × AreInStep k l o (held_by_name o) bits t i w y
    back t i y fit h =
        let input_count : length i ≡ length (inputs o) = ap length (sym h.inputs) ∙ length-map (inputs o) (value_at o.vars y) in
        let a = once m (KeepsStep.held (is.of_netlist.step k seen) t) i checked.ordered (KeepsStep.each (is.of_netlist.step k seen) t) (input_count ∙ ap length inputs_same) in
        let b = KeepsStep.back (is.of_netlist.step k seen) t i a.0 fit a.1 in
        let c = in_step t i b.0 a.0 b.1 in
        let u = once o (held_by_name o t) i renamed.checked.ordered (length-map o.registers (λ (r : Register). bit (t r.name.text) 0)) input_count in
        let same : c.0 ≡ y = u.2 c.0 c.1.machine ∙ sym (u.2 y h) in
        (b.0, subst (λ (z : List Bool). AreInStep k l o (held_by_name o) bits t i b.0 z) same c.1)

    keeps : KeepsStep k l o
    keeps = record {
      held = held_by_name o;
      bits = bits;
      each = λ t. length-map o.registers (λ (r : Register). bit (t r.name.text) 0);
      start = all_false (λ (r : Register). bit (no_contents k l r.name.text) 0) o.registers (λ r. no_zero (cell_at l (model_of k.instances r.name.text)));
      starts = fits k seen (no_contents k l);
      stays = λ w. fits k seen (net_next k l w);
      forth = forth;
      back = back;
    }

    keeps_held : (t : Contents) → KeepsStep.held keeps t ≡ held_by_name o t
    unfolding keeps
    keeps_held t = refl

  name_there : (name : Name) → In name (register_names o) → In name names
  name_there name i =
      let r = In-map_back (name_at names) name renamed.places (subst (λ (ns : List Name). In name ns) renamed.named i) in
      subst (λ (x : Name). In x names) r.2 (In-at names r.0 (record { text = []; bit = None }) (place_low r.0 r.1))

  there_name : (name : Name) → In name names → In name (register_names o)
  there_name name i =
      let r = place_of_In names name i in
      let l = r.1 in
      let j = In-permutation (rising 0 (length names)) renamed.places r.0 renamed.moved (rising-In 0 (length names) r.0 (omega arith) (omega (arith, l))) in
      subst (λ (ns : List Name). In name ns) (sym renamed.named)
      (subst (λ (x : Name). In x (map (name_at names) renamed.places)) (r.2 (record { text = []; bit = None })) (In-map (name_at names) r.0 renamed.places j))

  pub is_flat : IsFlat n l table o
  is_flat = record {
    of_netlist = record {
      name = renamed.text ∙ is.of_netlist.name;
      ports = renamed.ports ∙ is.of_netlist.ports;
      clock = subst (IsClockPort table n) (sym renamed.clock) is.of_netlist.clock;
      step = keeps;
    };
    registers = λ name. (name_there name, there_name name);
    fits = fits;
    holds = keeps_held;
  }
