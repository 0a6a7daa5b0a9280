-- The input pins of a class are among its sinks.
use Rattle.std.proofs.Common.{◌≡◌, ◌⊎◌, inl, inr, ℕ, suc, ◌≤◌, Bool, true, false, not, ◌&&◌, List, [], ◌∷◌, length, filter, Option, None, Some, refl, sym, ◌∙◌, ap, subst, arith, nat_eq, eq-eqb}
use Rattle.std.specs.List.{flat_map, list_any}
use Rattle.std.proofs.lemmas.Option.{same_Some}
use Rattle.vlsi_base.specs.declared.name.Name.{Name}
use Rattle.vlsi_base.specs.declared.name.Terminal.{Terminal}
use Rattle.vlsi_base.specs.Names.{vdd, vss}
use Rattle.vlsi_base.specs.Member.{In, here, there, AllDifferent}
use Rattle.machine_core.specs.Machine.{Machine, is_input, names_of}
use Rattle.machine_core.specs.Named.{is_same_name}
use Rattle.machine_core.specs.Checked.{IsChecked}
use Rattle.machine_core.proofs.Names.{same_name-true, same_name-itself}
use Rattle.cell_model.specs.Cell.{Function, gate, flip_flop, other, opaque, Cell, pin_ports, cell_inputs}
use Rattle.cell_model.specs.Library.{Library, cell_of, IsUsable, IsPlain}
use Rattle.cell_model.proofs.Members.{In-left, In-right, In-map, In-map_back}
use Rattle.cell_pins.specs.Pins.{all_ports}
use Rattle.net_core.specs.Places.{IsThere}
use Rattle.net_core.specs.Netlist.{Instance, Netlist as InMemory, IsNetlist, port, terminals}
use Rattle.net_meaning.specs.Netlist.{Member, AbstractNetlist, pin_of, IsTerminal}
use Rattle.net_meaning.specs.Well.{Has, a_clock_pin, IsSpecial, of_vdd, of_vss, of_clock, IsFlipFlop, IsWell}
use Rattle.net_theory.proofs.Basics.{In-names}
use Rattle.net_theory.proofs.Seats.{input_terminal}
use Rattle.net_right.specs.View.{member_of, IsSeenAs}
use Rattle.net_right.specs.Right.{IsRightNetlist, HasPinsOfCells}
use Rattle.net_right.proofs.Lists.{in_place, filter_in}
use Rattle.net_right.proofs.Places.{pin_there}
use Rattle.net_right.proofs.Ports.{names_to}
use Rattle.net_right.proofs.Terminals.{seen_instances, IsCelled}
use Rattle.net_right.proofs.Seen.{seen_class, seen_is_well_formed}
use Rattle.loon_loads.specs.Sinks.{is_clock_of, is_sink_of}
use Rattle.loon_fanout.specs.Sinks.{instance_sinks, is_supply_class, sinks, wired_of}
use Rattle.loon_fanout.specs.Limited.{HasFanout, IsOfCells}
use Rattle.loon_fanout.specs.Nets.{IsInputPin, an_input_pin, HasFewInputs, RightHasFewInputs}
use Rattle.loon_fanout.proofs.Picking.{in_any, is_false}
use Rattle.loon_fanout.proofs.Supplies.{apart_net, readers, net_sinks}
use Rattle.loon_fanout.proofs.RightStay.{is_seen}

-- ---- lists

in_cons : {A : Type 0} (z x : A) (ys : List A) → In z (x ∷ ys) → (z ≡ x) ⊎ In z ys
in_cons z x ys here = inl refl
in_cons z x ys (there h) = inr h

-- a list without one of its members
record IsWithout {A : Type 0} (x : A) (ys : List A) : Type 0 where
  rest : List A
  many : length ys ≡ suc (length rest)
  others : (y : A) → In y ys → (y ≡ x) ⊎ In y rest

without : {A : Type 0} (x : A) (ys : List A) → In x ys → IsWithout x ys
without x [] h = elim h [ ]
without x (y ∷ ys) here = record { rest = ys; many = refl; others = λ z h. in_cons z x ys h }
without {A} x (y ∷ ys) (there h) = by (without x ys h) where
  by : IsWithout x ys → IsWithout x (y ∷ ys)
  by r = record {
    rest = y ∷ r.rest;
    many = let e = r.many in omega (arith, e);
    others = λ z g. elim (in_cons z y ys g) [
      | inl same ↦ inr (subst (λ (u : A). In u (y ∷ r.rest)) (sym same) here)
      | inr later ↦ elim (r.others z later) [ inl same ↦ inl same | inr far ↦ inr (there far) ]
    ];
  }

-- different members of a list are no more than it has
pub few_members : {A : Type 0} (xs ys : List A) → AllDifferent xs → ((x : A) → In x xs → In x ys) → length xs ≤ length ys
few_members [] ys differ each = omega arith
few_members {A} (x ∷ xs) ys differ each =
    let r = without x ys (each x here) in
    let many = r.many in
    let rest = few_members xs r.rest differ.1 (λ y h. elim (r.others y (each y (there h))) [
      | inl same ↦ absurd (differ.0 (subst (λ (u : A). In u xs) same h))
      | inr far ↦ far
    ]) in
    omega (arith, many, rest)

pub in_flat : {A B : Type 0} (f : A → List B) (y : B) (xs : List A) (x : A) → In x xs → In y (f x) → In y (flat_map f xs)
in_flat f y [] x h g = elim h [ ]
in_flat f y (z ∷ xs) x here g = In-left y (f z) (flat_map f xs) g
in_flat f y (z ∷ xs) x (there h) g = In-right y (f z) (flat_map f xs) (in_flat f y xs x h g)

both_true : (a b : Bool) → a ≡ true → b ≡ false → (a && not b) ≡ true
both_true true false p q = refl
both_true false b p q = absurd (cc p)
both_true true true p q = absurd (cc q)

-- ---- netlists

pub celled_of : (n : InMemory) (l : Library) → IsOfCells n l → (i : Instance) → IsThere n.instances i → IsCelled l i
celled_of n l of_cells i h = let c = of_cells.found i h in record { cell = c.0; found = c.1; connected = c.2.connectors; pins = c.3 }

-- an instance and its usable cell
pub record IsMade (n : InMemory) (l : Library) (i : Member) (c : Cell) : Type 0 where
  pub owner : Instance
  pub listed : In owner n.instances
  pub member : member_of owner ≡ i
  pub found : cell_of l owner.model ≡ Some c
  pub usable : IsUsable c
  pub pins : owner.pins ≡ names_of (all_ports c)

pub made : (n : InMemory) (l : Library) (k : AbstractNetlist) → IsOfCells n l → IsSeenAs n k → (i : Member) (c : Cell) → Has k l i c → IsMade n l i c
made n l k of_cells seen i c has =
    let r = In-map_back member_of i n.instances (subst (λ (all : List Member). In i all) (seen_instances n k seen) has.listed) in
    let found : cell_of l r.0.model ≡ Some c = subst (λ (x : Member). cell_of l x.model ≡ Some c) (sym r.2) has.found in
    let d = of_cells.found r.0 (in_place r.0 n.instances r.1) in
    let same : d.0 ≡ c = same_Some d.0 c (sym d.1 ∙ found) in
    record {
      owner = r.0;
      listed = r.1;
      member = r.2;
      found = found;
      usable = subst (λ (x : Cell). IsUsable x) same d.2;
      pins = d.3 ∙ ap (λ (x : Cell). names_of (all_ports x)) same;
    }

-- an input pin of a net that is no clock pin is a sink of it
pub made_sink : (n : InMemory) (l : Library) (k : AbstractNetlist) → IsNetlist n → (of_cells : IsOfCells n l) → IsSeenAs n k → (i : Member) (c : Cell) → IsMade n l i c
    → (name : Name) → In name (cell_inputs c) → is_clock_of c.function name ≡ false
    → is_supply_class (wired_of n) (k.class (pin_of i.name name)) ≡ false → In (pin_of i.name name) (sinks l (wired_of n) (k.class (pin_of i.name name)))
made_sink n l k is of_cells seen i c made name input no_clock net =
    subst (λ (ts : List Terminal). In (pin_of i.name name) ts) (sym (net_sinks l (wired_of n) (k.class (pin_of i.name name)) net))
    (subst (λ (x : Member). In (pin_of x.name name) (readers l (wired_of n) (k.class (pin_of x.name name)))) made.member sunk) where
      here_pin : In name made.owner.pins
      here_pin = subst (λ (ns : List Name). In name ns) (sym made.pins) (names_to (pin_ports c) name (inr (inr (In-names (λ p. is_input p.dir) (pin_ports c) name input))))

      is_sink : is_sink_of (cell_of l made.owner.model) name ≡ true
      is_sink =
          ap (λ (o : Option Cell). is_sink_of o name) made.found
          ∙ both_true (list_any (λ pin. is_same_name pin name) (cell_inputs c)) (is_clock_of c.function name)
          (in_any (λ (pin : Name). is_same_name pin name) (cell_inputs c) name input (same_name-itself name)) no_clock

      among : In (pin_of made.owner.name name) (flat_map (instance_sinks l) n.instances)
      among = in_flat (instance_sinks l) (pin_of made.owner.name name) n.instances made.owner made.listed
          (In-map (pin_of made.owner.name) name (filter (is_sink_of (cell_of l made.owner.model)) made.owner.pins) (filter_in (is_sink_of (cell_of l made.owner.model)) made.owner.pins name here_pin is_sink))

      class : (wired_of n).class (pin_of made.owner.name name) ≡ k.class (pin_of made.owner.name name)
      class =
          let t = pin_there n made.owner name (in_place made.owner n.instances made.listed) (in_place name made.owner.pins here_pin) in
          (is_seen n l is (celled_of n l of_cells)).classes.each (pin_of made.owner.name name) (k.class (pin_of made.owner.name name)) (seen_class n k is seen (pin_of made.owner.name name) t)

      sunk : In (pin_of made.owner.name name) (readers l (wired_of n) (k.class (pin_of made.owner.name name)))
      sunk =
          filter_in (λ t. nat_eq ((wired_of n).class t) (k.class (pin_of made.owner.name name))) (flat_map (instance_sinks l) n.instances) (pin_of made.owner.name name) among
          (eq-eqb ((wired_of n).class (pin_of made.owner.name name)) (k.class (pin_of made.owner.name name)) class)

module _ (n : InMemory) (l : Library) (m : Machine) (limit : ℕ) (k : AbstractNetlist) (is : IsNetlist n) (checked : IsChecked m) (of_cells : IsOfCells n l) (right : IsRightNetlist n l m)
    (fanout : HasFanout l limit n) (seen : IsSeenAs n k) where
  has_pins : HasPinsOfCells n l
  has_pins i c t found = let d = of_cells.found i t in d.3 ∙ ap (λ (x : Cell). names_of (all_ports x)) (same_Some d.0 c (sym d.1 ∙ found))

  well : IsWell k l m
  well = (seen_is_well_formed n l m k is checked right has_pins seen).0

  -- a clock pin is in the clock's class
  special : (i : Member) (c : Cell) (d ck : Name) → Has k l i c → IsTerminal k l (pin_of i.name ck) → c.function ≡ flip_flop d ck → (o : Option Name) → m.clock ≡ o → IsSpecial k m (pin_of i.name ck)
  special i c d ck has terminal function None none = absurd (well.unclocked none i c has (subst (λ (u : Function). IsFlipFlop u) (sym function) tt))
  special i c d ck has terminal function (Some name) clocked =
      of_clock name clocked ((well.clock name clocked (pin_of i.name ck) terminal).1 (inr (a_clock_pin i c d ck has function)))

  no_clock : (i : Member) (c : Cell) (name : Name) → Has k l i c → IsUsable c → IsTerminal k l (pin_of i.name name) → (IsSpecial k m (pin_of i.name name) → ⊥)
      → (u : Function) → c.function ≡ u → is_clock_of u name ≡ false
  no_clock i c name has usable terminal plain (gate e) function = refl
  no_clock i c name has usable terminal plain (flip_flop d ck) function = is_false (is_same_name ck name) (λ e.
      let same = same_name-true ck name e in
      plain (subst (λ (x : Name). IsSpecial k m (pin_of i.name x)) same (special i c d ck has (subst (λ (x : Name). IsTerminal k l (pin_of i.name x)) (sym same) terminal) function m.clock refl)))
  no_clock i c name has usable terminal plain (other machine) function =
      let wrong : IsPlain c (other machine) = subst (λ (u : Function). IsPlain c u) function usable.function in absurd wrong
  no_clock i c name has usable terminal plain opaque function = refl

  -- a port has one class here and there
  port_class : (t : Terminal) → IsThere (terminals n) t → (wired_of n).class t ≡ k.class t
  port_class t h = (is_seen n l is (celled_of n l of_cells)).classes.each t (k.class t) (seen_class n k is seen t h)

  -- a class that isn't that of a supply is a net
  on_net : (t : Terminal) → (IsSpecial k m t → ⊥) → is_supply_class (wired_of n) (k.class t) ≡ false
  on_net t plain =
      apart_net (wired_of n) (k.class t)
      (λ e. plain (of_vdd (sym e ∙ port_class (port vdd) of_cells.on_vdd)))
      (λ e. plain (of_vss (sym e ∙ port_class (port vss) of_cells.on_vss)))

  sink_in : (t : Terminal) → IsInputPin k l t → (IsSpecial k m t → ⊥) → In t (sinks l (wired_of n) (k.class t))
  sink_in t (an_input_pin {name = name} i c has input) plain =
      let d = made n l k of_cells seen i c has in
      made_sink n l k is of_cells seen i c d name input
      (no_clock i c name has d.usable (input_terminal k l i c name has d.usable input) plain c.function refl)
      (on_net (pin_of i.name name) plain)

  few_inputs : HasFewInputs k l m limit
  few_inputs class pins differ each =
      let few = few_members pins (sinks l (wired_of n) class) differ (λ t h. let e = each t h in subst (λ (c : ℕ). In t (sinks l (wired_of n) c)) e.1 (sink_in t e.0 e.2)) in
      let all = fanout class in
      omega (arith, few, all)

pub right_has_few_inputs : RightHasFewInputs
right_has_few_inputs n l m limit k is checked of_cells right fanout seen = few_inputs n l m limit k is checked of_cells right fanout seen
