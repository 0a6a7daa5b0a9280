-- A gate of one input put in, and sinks moved: classes that have no fault still have none.
use Rattle.std.proofs.Common.{◌≡◌, ◌≢◌, ◌⊎◌, inl, inr, ℕ, suc, ◌+◌, ◌-◌, ◌<◌, ◌≤◌, Bool, true, false, List, [], ◌∷◌, ◌++◌, nat_eq, Some, None, refl, sym, ap, ◌∙◌, subst, arith, if◌then◌else◌}
use Rattle.std.specs.List.{list_any}
use Rattle.std.proofs.lemmas.Bool.{cases_lt, eqb-true, eq-eqb}
use Rattle.vlsi_base.specs.declared.name.Name.{Name}
use Rattle.vlsi_base.specs.declared.name.Terminal.{Terminal}
use Rattle.vlsi_base.specs.Names.{vdd, vss}
use Rattle.vlsi_base.specs.Member.{In, here, there}
use Rattle.cell_model.specs.Cell.{Cell}
use Rattle.cell_model.specs.Library.{Library}
use Rattle.cell_model.proofs.Members.{In-split, In-map_back, In-map}
use Rattle.cell_model.proofs.Texts.{text_differs}
use Rattle.cell_pins.specs.Pins.{all_ports}
use Rattle.cell_pins.specs.Table.{ArePins}
use Rattle.net_core.specs.declared.pins.ModelPin.{ModelPin}
use Rattle.net_core.specs.declared.pins.ModelPins.{ModelPins}
use Rattle.net_core.specs.declared.tally.Role.{Role}
use Rattle.net_core.specs.declared.tally.Role.TheVariants as role
use Rattle.net_core.specs.declared.tally.Tally.{Tally}
use Rattle.net_core.specs.Netlist.{Instance, port, pin_of}
use Rattle.net_core.specs.Checks.{pins_named}
use Rattle.loon_fanout.specs.Sinks.{Wired, is_same_terminal}
use Rattle.loon_fanout.specs.Wired.{pin_class, with_gate, with_moved}
use Rattle.loon_fanout.specs.Laws.{gate_named}
use Rattle.loon_fanout.proofs.Picking.{any_in}
use Rattle.loon_fanout.proofs.Terminals.{terminal_same}
use Rattle.loon_fanout.proofs.RightStates.{IsGateCell}
use Rattle.loon_fanout.proofs.RightPins.{own_class, input, output, input_class, output_class}
use Rattle.loon_fanout.proofs.RightMove.{IsSink}
use Rattle.loon_fanout.proofs.OneClass.{AreGood}
use Rattle.net_right.proofs.Tallies.{input_port, output_port, input_pin, clock_pin}
use Rattle.loon_fanout.proofs.PassTallies.{Mark, Counts, tally_in, joined, nowhere, somewhere, found, unmoved, only, output_pin, input_ports, output_ports, input_pins, clock_pins, output_pins, output_pin_least, IsGood, IsFine}
use Rattle.loon_fanout.proofs.PassPins.{instance_marks, pin_mark, marks, marks_push, MarkOf, of_port, of_pin, mark_of, IsMade, sink_role, GatePin, on_supply, reads, drives, gate_pin, gate_output, gate_pins_differ}

abbrev pub all_marks : List ModelPins → Wired → List Mark
all_marks table w = marks table w.ports w.instances

abbrev pub tally_at : List ModelPins → Wired → ℕ → Tally
tally_at table w c = tally_in w.class (all_marks table w) c

-- classes are numbered below the count and have no fault, and those of the supplies have a driver and no clock pins
pub record IsSane (l : Library) (table : List ModelPins) (clocks : ℕ) (w : Wired) : Type 0 where
  pub made : (i : Instance) → In i w.instances → IsMade l table i
  pub below : (m : Mark) → In m (all_marks table w) → w.class m.terminal < w.count
  pub good : (c : ℕ) → IsGood clocks (tally_at table w c)
  pub high_low : w.class (port vdd) < w.count
  pub low_low : w.class (port vss) < w.count
  pub high : IsFine (tally_at table w (w.class (port vdd)))
  pub low : IsFine (tally_at table w (w.class (port vss)))

one_input_pin : (m : Mark) → m.role ≡ role.InputPin → input_pin m.role ≡ 1
one_input_pin m e = ap input_pin e

-- ---- a gate

module _ (l : Library) (table : List ModelPins) (clocks : ℕ) (w : Wired) (s : IsSane l table clocks w) (c : Cell) (b : IsGateCell l c)
    (row : ArePins c.function (all_ports c) (all_ports c) (pins_named table c.name)) (name : List ℕ) (new_name : (i : Instance) → In i w.instances → i.name ≢ name)
    (k : ℕ) (low_k : k < w.count) (fine_k : IsFine (tally_at table w k)) where
  abbrev u : Wired
  u = with_gate c w k name

  abbrev old : List Mark
  old = all_marks table w

  abbrev new : List Mark
  new = instance_marks table (gate_named c name)

  marks_are : all_marks table u ≡ old ++ new
  marks_are = marks_push table w.ports w.instances (gate_named c name)

  class_old : (owner : List ℕ) (pin : Name) → owner ≢ name → u.class (pin_of owner pin) ≡ w.class (pin_of owner pin)
  class_old owner pin apart = ap (λ (x : Bool). if x then pin_class w c k pin else w.class (pin_of owner pin)) (text_differs owner name apart)

  old_class : (m : Mark) → In m old → u.class m.terminal ≡ w.class m.terminal
  old_class m h = by (mark_of table w.ports w.instances m h) where
    by : MarkOf table w.ports w.instances m → u.class m.terminal ≡ w.class m.terminal
    by (of_port p i e) = subst (λ (x : Mark). u.class x.terminal ≡ w.class x.terminal) e refl
    by (of_pin i q i_in q_in e) = subst (λ (x : Mark). u.class x.terminal ≡ w.class x.terminal) e (class_old i.name q.name (new_name i i_in))

  -- what a pin of the gate does
  data NewMark (m : Mark) : Type 0 where
    takes : m.role ≡ role.InputPin → (u.class m.terminal ≡ w.class (port vdd)) ⊎ ((u.class m.terminal ≡ w.class (port vss)) ⊎ (u.class m.terminal ≡ k)) → NewMark m
    gives : m.role ≡ role.OutputPin → u.class m.terminal ≡ w.count → m.terminal ≡ pin_of name (output l c b) → NewMark m

  class_high : pin_class w c k vdd ≡ w.class (port vdd)
  class_high = refl

  class_low : pin_class w c k vss ≡ w.class (port vss)
  class_low = refl

  new_mark : (m : Mark) → In m new → NewMark m
  new_mark m h =
      let p = In-map_back (pin_mark name) m (pins_named table c.name) h in
      subst (λ (x : Mark). NewMark x) p.2 (by p.0 (gate_pin l table c b row p.0 p.1)) where
        at : (q : ModelPin) (pin : Name) (d : ℕ) → q.name ≡ pin → pin_class w c k pin ≡ d → u.class (pin_of name q.name) ≡ d
        at q pin d e f = own_class c w name k q.name ∙ ap (pin_class w c k) e ∙ f

        by : (q : ModelPin) → GatePin l c b q → NewMark (pin_mark name q)
        by q (on_supply (inl e) r) = takes r (inl (at q vdd (w.class (port vdd)) e class_high))
        by q (on_supply (inr e) r) = takes r (inr (inl (at q vss (w.class (port vss)) e class_low)))
        by q (reads e r) = takes r (inr (inr (at q (input l c b) k e (input_class l c b w k))))
        by q (drives e r) = gives r (at q (output l c b) w.count e (output_class l c b w k)) (ap (pin_of name) e)

  -- tallies: the old ones, and those of the gate
  abbrev from_old : ℕ → Tally
  from_old d = tally_at table w d

  abbrev from_new : ℕ → Tally
  from_new d = tally_in u.class new d

  module _ (many : Tally → ℕ) (adds : Role → ℕ) (h : Counts many adds) where
    sums : (d : ℕ) → many (tally_at table u d) ≡ many (from_old d) + many (from_new d)
    sums d =
        let a = ap (λ (ms : List Mark). many (tally_in u.class ms d)) marks_are in
        let e = joined many adds h u.class old new d in
        let f = unmoved many adds h u.class w.class old d (λ m i. inr (old_class m i)) in
        omega (arith, a, e, f)

    fresh_none : many (from_old w.count) ≡ 0
    fresh_none = nowhere many adds h w.class old w.count (λ m i. inr (λ e. let low = s.below m i in absurd (omega (arith, low, e))))

    none_new : adds role.InputPin ≡ 0 → adds role.OutputPin ≡ 0 → (d : ℕ) → many (from_new d) ≡ 0
    none_new p q d = nowhere many adds h u.class new d (λ m i. by m (new_mark m i)) where
      by : (m : Mark) → NewMark m → (adds m.role ≡ 0) ⊎ (u.class m.terminal ≢ d)
      by m (takes r e) = inl (ap adds r ∙ p)
      by m (gives r e t) = inl (ap adds r ∙ q)

  drives_elsewhere : (d : ℕ) → d ≢ w.count → (from_new d).output_pins ≡ 0
  drives_elsewhere d apart = nowhere (λ t. t.output_pins) output_pin output_pins u.class new d (λ m i. by m (new_mark m i)) where
    by : (m : Mark) → NewMark m → (output_pin m.role ≡ 0) ⊎ (u.class m.terminal ≢ d)
    by m (takes r e) = inl (ap output_pin r)
    by m (gives r e t) = inr (λ f. apart (sym f ∙ e))

  drives_once : (from_new w.count).output_pins ≤ 1
  drives_once =
      only (λ t. t.output_pins) output_pin output_pins u.class new w.count (pin_of name (output l c b)) output_pin_least (gate_pins_differ l table c b row name)
      (λ m i e one. by m (new_mark m i) one) where
        by : (m : Mark) → NewMark m → 1 ≤ output_pin m.role → m.terminal ≡ pin_of name (output l c b)
        by m (takes r e) one = let z = ap output_pin r in absurd (omega (arith, one, z))
        by m (gives r e t) one = t

  drives_there : 1 ≤ (from_new w.count).output_pins
  drives_there =
      let q = gate_output l table c b row in
      let m = pin_mark name q.0 in
      let i : In m new = In-map (pin_mark name) q.0 (pins_named table c.name) q.1 in
      let at : u.class m.terminal ≡ w.count = own_class c w name k q.0.name ∙ ap (pin_class w c k) q.2 ∙ output_class l c b w k in
      let r = somewhere (λ t. t.output_pins) output_pin output_pins u.class new w.count m i at in
      let one : output_pin m.role ≡ 1 = ap output_pin q.3 in
      omega (arith, r, one)

  -- a class in which the gate reads is fine
  read_fine : (d : ℕ) → 1 ≤ (from_new d).input_pins → IsFine (from_old d)
  read_fine d l =
      let f = found (λ t. t.input_pins) input_pin input_pins u.class new d l in
      by f.0 (new_mark f.0 f.1) f.2 f.3 where
        at : (e : ℕ) → IsFine (from_old e) → (m : Mark) → u.class m.terminal ≡ e → u.class m.terminal ≡ d → IsFine (from_old d)
        at e fine m p q = subst (λ (x : ℕ). IsFine (from_old x)) (sym p ∙ q) fine

        by : (m : Mark) → NewMark m → u.class m.terminal ≡ d → 1 ≤ input_pin m.role → IsFine (from_old d)
        by m (takes r (inl e)) is one = at (w.class (port vdd)) s.high m e is
        by m (takes r (inr (inl e))) is one = at (w.class (port vss)) s.low m e is
        by m (takes r (inr (inr e))) is one = at k fine_k m e is
        by m (gives r e t) is one = let z = ap input_pin r in absurd (omega (arith, one, z))

  read_below : (d : ℕ) → 1 ≤ (from_new d).input_pins → d < w.count
  read_below d l =
      let f = found (λ t. t.input_pins) input_pin input_pins u.class new d l in
      by f.0 (new_mark f.0 f.1) f.2 f.3 where
        by : (m : Mark) → NewMark m → u.class m.terminal ≡ d → 1 ≤ input_pin m.role → d < w.count
        by m (takes r (inl e)) is one = let h = s.high_low in omega (arith, e, is, h)
        by m (takes r (inr (inl e))) is one = let h = s.low_low in omega (arith, e, is, h)
        by m (takes r (inr (inr e))) is one = omega (arith, e, is, low_k)
        by m (gives r e t) is one = let z = ap input_pin r in absurd (omega (arith, one, z))

  -- fine classes stay so, and the new one is fine
  pub gate_keeps : (d : ℕ) → IsFine (from_old d) → IsFine (tally_at table u d)
  gate_keeps d f =
      let a = sums (λ t. t.input_ports) input_port input_ports d in
      let e = sums (λ t. t.output_pins) output_pin output_pins d in
      let g = sums (λ t. t.clock_pins) clock_pin clock_pins d in
      let z = none_new (λ t. t.clock_pins) clock_pin clock_pins refl refl d in
      let x = f.driven in let y = f.no_clock in
      record { driven = omega (arith, a, e, x); no_clock = omega (arith, g, z, y) }

  pub gate_fresh : IsFine (tally_at table u w.count)
  gate_fresh =
      let e = sums (λ t. t.output_pins) output_pin output_pins w.count in
      let g = sums (λ t. t.clock_pins) clock_pin clock_pins w.count in
      let z = none_new (λ t. t.clock_pins) clock_pin clock_pins refl refl w.count in
      let y = fresh_none (λ t. t.clock_pins) clock_pin clock_pins in
      let x = drives_there in
      record { driven = omega (arith, e, x); no_clock = omega (arith, g, z, y) }

  good_fresh : IsGood clocks (tally_at table u w.count)
  good_fresh =
      let f = gate_fresh in
      let driven = f.driven in let no_clock = f.no_clock in
      let a = sums (λ t. t.input_ports) input_port input_ports w.count in
      let a0 = fresh_none (λ t. t.input_ports) input_port input_ports in
      let a1 = none_new (λ t. t.input_ports) input_port input_ports refl refl w.count in
      let e = sums (λ t. t.output_pins) output_pin output_pins w.count in
      let e0 = fresh_none (λ t. t.output_pins) output_pin output_pins in
      let e1 = drives_once in
      record { driven = λ h. driven; once = omega (arith, a, a0, a1, e, e0, e1); clock = λ h. absurd (omega (arith, h, no_clock)) }

  good_old : (d : ℕ) → d ≢ w.count → IsGood clocks (tally_at table u d)
  good_old d apart = record { driven = driven (cases_lt 0 (from_new d).input_pins); once = once; clock = clock } where
    a : (tally_at table u d).input_ports ≡ (from_old d).input_ports + (from_new d).input_ports
    a = sums (λ t. t.input_ports) input_port input_ports d

    a1 : (from_new d).input_ports ≡ 0
    a1 = none_new (λ t. t.input_ports) input_port input_ports refl refl d

    e : (tally_at table u d).output_pins ≡ (from_old d).output_pins + (from_new d).output_pins
    e = sums (λ t. t.output_pins) output_pin output_pins d

    e1 : (from_new d).output_pins ≡ 0
    e1 = drives_elsewhere d apart

    p : (tally_at table u d).output_ports ≡ (from_old d).output_ports + (from_new d).output_ports
    p = sums (λ t. t.output_ports) output_port output_ports d

    p1 : (from_new d).output_ports ≡ 0
    p1 = none_new (λ t. t.output_ports) output_port output_ports refl refl d

    g : (tally_at table u d).clock_pins ≡ (from_old d).clock_pins + (from_new d).clock_pins
    g = sums (λ t. t.clock_pins) clock_pin clock_pins d

    g1 : (from_new d).clock_pins ≡ 0
    g1 = none_new (λ t. t.clock_pins) clock_pin clock_pins refl refl d

    i : (tally_at table u d).input_pins ≡ (from_old d).input_pins + (from_new d).input_pins
    i = sums (λ t. t.input_pins) input_pin input_pins d

    once : (tally_at table u d).input_ports + (tally_at table u d).output_pins ≤ 1
    once = let x = (s.good d).once in omega (arith, x, a, a1, e, e1)

    driven : (0 < (from_new d).input_pins) ⊎ ((from_new d).input_pins ≤ 0) → 1 ≤ (tally_at table u d).input_pins + (tally_at table u d).clock_pins + (tally_at table u d).output_ports
        → 1 ≤ (tally_at table u d).input_ports + (tally_at table u d).output_pins
    driven (inl some) h = let f = read_fine d (omega (arith, some)) in let x = f.driven in omega (arith, x, a, e)
    driven (inr zeros) h = let x = (s.good d).driven (omega (arith, h, zeros, i, g, g1, p, p1)) in omega (arith, x, a, e)

    unread : (0 < (from_new d).input_pins) ⊎ ((from_new d).input_pins ≤ 0) → 1 ≤ (from_old d).clock_pins → (from_new d).input_pins ≡ 0
    unread (inl some) h = let f = read_fine d (omega (arith, some)) in let x = f.no_clock in absurd (omega (arith, x, h))
    unread (inr zeros) h = omega (arith, zeros)

    clock : 1 ≤ (tally_at table u d).clock_pins
        → (1 ≤ (tally_at table u d).input_ports) × (clocks ≤ (tally_at table u d).clock_pins) × ((tally_at table u d).output_ports ≡ 0) × ((tally_at table u d).input_pins ≡ 0)
    clock h =
        let h_old : 1 ≤ (from_old d).clock_pins = omega (arith, h, g, g1) in
        let x = (s.good d).clock h_old in
        let x0 = x.0 in let x1 = x.1 in let x2 = x.2 in let x3 = x.3 in
        let n = unread (cases_lt 0 (from_new d).input_pins) h_old in
        (omega (arith, x0, a), omega (arith, x1, g), omega (arith, x2, p, p1), omega (arith, x3, i, n))

  below_after : (m : Mark) → In m (all_marks table u) → u.class m.terminal < suc w.count
  below_after m h = elim (In-split m old new (subst (λ (ms : List Mark). In m ms) marks_are h)) [
    | inl a ↦ let x = old_class m a in let y = s.below m a in omega (arith, x, y)
    | inr a ↦ by (new_mark m a)
  ] where
    by : NewMark m → u.class m.terminal < suc w.count
    by (takes r (inl e)) = let x = s.high_low in omega (arith, e, x)
    by (takes r (inr (inl e))) = let x = s.low_low in omega (arith, e, x)
    by (takes r (inr (inr e))) = omega (arith, e, low_k)
    by (gives r e t) = omega (arith, e)

  made_after : (i : Instance) → In i u.instances → IsMade l table i
  made_after i h = elim (In-split i w.instances (gate_named c name ∷ []) h) [
    | inl a ↦ s.made i a
    | inr a ↦
        let g : IsMade l table (gate_named c name) = record { cell = c; found = b.found; usable = b.usable; signals = b.signals; row = row } in
        subst (λ (x : Instance). IsMade l table x) (sym (in_one (gate_named c name) i a)) g
  ] where
    in_one : (x y : Instance) → In y (x ∷ []) → y ≡ x
    in_one x y here = refl
    in_one x y (there g) = elim g [ ]

  pub gate_sane : IsSane l table clocks u
  gate_sane = record {
    made = made_after;
    below = below_after;
    good = λ d. by d (nat_eq d w.count) refl;
    high_low = let x = s.high_low in omega (arith, x);
    low_low = let x = s.low_low in omega (arith, x);
    high = gate_keeps (w.class (port vdd)) s.high;
    low = gate_keeps (w.class (port vss)) s.low;
  } where
    by : (d : ℕ) (t : Bool) → nat_eq d w.count ≡ t → IsGood clocks (tally_at table u d)
    by d true e = subst (λ (x : ℕ). IsGood clocks (tally_at table u x)) (sym (eqb-true d w.count e)) good_fresh
    by d false e = good_old d (λ f. let yes = eq-eqb d w.count f in let never : true ≡ false = sym yes ∙ e in absurd (cc never))

-- ---- sinks moved to the last class

module _ (l : Library) (table : List ModelPins) (clocks : ℕ) (w : Wired) (s : IsSane l table clocks w) (named : AreGood l w.instances) (group : List Terminal)
    (each : (t : Terminal) → In t group → IsSink l w t) (to : ℕ) (to_is : w.count - 1 ≡ to) (low_to : to < w.count) (fine_to : IsFine (tally_at table w to)) where
  abbrev after : Wired
  after = with_moved group w

  abbrev all : List Mark
  all = all_marks table w

  moved_role : (m : Mark) → In m all → IsSink l w m.terminal → m.role ≡ role.InputPin
  moved_role m h = by (mark_of table w.ports w.instances m h) where
    by : MarkOf table w.ports w.instances m → IsSink l w m.terminal → m.role ≡ role.InputPin
    by (of_port p i e) k =
        let wrong : None ≡ Some k.owner.name = ap (λ (t : Terminal). t.instance) (ap (λ (x : Mark). x.terminal) e ∙ k.is) in absurd (cc wrong)
    by (of_pin i q i_in q_in e) k =
        sym (ap (λ (x : Mark). x.role) e)
        ∙ sink_role l table w named i i_in (s.made i i_in) q q_in (subst (λ (t : Terminal). IsSink l w t) (sym (ap (λ (x : Mark). x.terminal) e)) k)

  -- a terminal keeps its class, or is an input pin and is moved
  moved_or : (m : Mark) → In m all → (after.class m.terminal ≡ w.class m.terminal) ⊎ ((m.role ≡ role.InputPin) × (after.class m.terminal ≡ to))
  moved_or m h = by (list_any (is_same_terminal m.terminal) group) refl where
    by : (t : Bool) → list_any (is_same_terminal m.terminal) group ≡ t → (after.class m.terminal ≡ w.class m.terminal) ⊎ ((m.role ≡ role.InputPin) × (after.class m.terminal ≡ to))
    by false e = inl (ap (λ (x : Bool). if x then w.count - 1 else w.class m.terminal) e)
    by true e =
        let x = any_in (is_same_terminal m.terminal) group e in
        let sink = each m.terminal (subst (λ (t : Terminal). In t group) (sym (terminal_same m.terminal x.0 x.2)) x.1) in
        inr (moved_role m h sink, ap (λ (x : Bool). if x then w.count - 1 else w.class m.terminal) e ∙ to_is)

  kept : (many : Tally → ℕ) (adds : Role → ℕ) → Counts many adds → adds role.InputPin ≡ 0 → (d : ℕ) → many (tally_at table after d) ≡ many (tally_at table w d)
  kept many adds h z d = unmoved many adds h after.class w.class all d (λ m i. by m (moved_or m i)) where
    by : (m : Mark) → (after.class m.terminal ≡ w.class m.terminal) ⊎ ((m.role ≡ role.InputPin) × (after.class m.terminal ≡ to)) → (adds m.role ≡ 0) ⊎ (after.class m.terminal ≡ w.class m.terminal)
    by m (inl e) = inr e
    by m (inr e) = inl (ap adds e.0 ∙ z)

  read_before : (d : ℕ) → 1 ≤ (tally_at table after d).input_pins → (1 ≤ (tally_at table w d).input_pins) ⊎ (d ≡ to)
  read_before d h =
      let f = found (λ t. t.input_pins) input_pin input_pins after.class all d h in
      by f.0 f.1 (moved_or f.0 f.1) f.2 f.3 where
        by : (m : Mark) → In m all → (after.class m.terminal ≡ w.class m.terminal) ⊎ ((m.role ≡ role.InputPin) × (after.class m.terminal ≡ to)) → after.class m.terminal ≡ d → 1 ≤ input_pin m.role
            → (1 ≤ (tally_at table w d).input_pins) ⊎ (d ≡ to)
        by m i (inl e) is one = let x = somewhere (λ t. t.input_pins) input_pin input_pins w.class all d m i (sym e ∙ is) in inl (omega (arith, x, one))
        by m i (inr e) is one = inr (sym is ∙ e.1)

  pub move_keeps : (d : ℕ) → IsFine (tally_at table w d) → IsFine (tally_at table after d)
  move_keeps d f =
      let a = kept (λ t. t.input_ports) input_port input_ports refl d in
      let e = kept (λ t. t.output_pins) output_pin output_pins refl d in
      let g = kept (λ t. t.clock_pins) clock_pin clock_pins refl d in
      let x = f.driven in let y = f.no_clock in
      record { driven = omega (arith, a, e, x); no_clock = omega (arith, g, y) }

  good_moved : (d : ℕ) → IsGood clocks (tally_at table after d)
  good_moved d = record { driven = driven (cases_lt 0 (tally_at table after d).input_pins); once = once; clock = clock } where
    a : (tally_at table after d).input_ports ≡ (tally_at table w d).input_ports
    a = kept (λ t. t.input_ports) input_port input_ports refl d

    p : (tally_at table after d).output_ports ≡ (tally_at table w d).output_ports
    p = kept (λ t. t.output_ports) output_port output_ports refl d

    g : (tally_at table after d).clock_pins ≡ (tally_at table w d).clock_pins
    g = kept (λ t. t.clock_pins) clock_pin clock_pins refl d

    e : (tally_at table after d).output_pins ≡ (tally_at table w d).output_pins
    e = kept (λ t. t.output_pins) output_pin output_pins refl d

    once : (tally_at table after d).input_ports + (tally_at table after d).output_pins ≤ 1
    once = let x = (s.good d).once in omega (arith, x, a, e)

    fine_at : d ≡ to → IsFine (tally_at table w d)
    fine_at is = subst (λ (x : ℕ). IsFine (tally_at table w x)) (sym is) fine_to

    read : (1 ≤ (tally_at table w d).input_pins) ⊎ (d ≡ to) → 1 ≤ (tally_at table after d).input_ports + (tally_at table after d).output_pins
    read (inl some) = let x = (s.good d).driven (omega (arith, some)) in omega (arith, x, a, e)
    read (inr is) = let f = fine_at is in let x = f.driven in omega (arith, x, a, e)

    driven : (0 < (tally_at table after d).input_pins) ⊎ ((tally_at table after d).input_pins ≤ 0)
        → 1 ≤ (tally_at table after d).input_pins + (tally_at table after d).clock_pins + (tally_at table after d).output_ports
        → 1 ≤ (tally_at table after d).input_ports + (tally_at table after d).output_pins
    driven (inl some) h = read (read_before d (omega (arith, some)))
    driven (inr zeros) h = let x = (s.good d).driven (omega (arith, h, zeros, g, p)) in omega (arith, x, a, e)

    unread : (0 < (tally_at table after d).input_pins) ⊎ ((tally_at table after d).input_pins ≤ 0) → 1 ≤ (tally_at table w d).clock_pins → (tally_at table w d).input_pins ≡ 0
        → (tally_at table after d).input_pins ≡ 0
    unread (inl some) h none = elim (read_before d (omega (arith, some))) [
      | inl x ↦ absurd (omega (arith, x, none))
      | inr is ↦ let f = fine_at is in let x = f.no_clock in absurd (omega (arith, x, h))
    ]
    unread (inr zeros) h none = omega (arith, zeros)

    clock : 1 ≤ (tally_at table after d).clock_pins
        → (1 ≤ (tally_at table after d).input_ports) × (clocks ≤ (tally_at table after d).clock_pins) × ((tally_at table after d).output_ports ≡ 0) × ((tally_at table after d).input_pins ≡ 0)
    clock h =
        let h_old : 1 ≤ (tally_at table w d).clock_pins = omega (arith, h, g) in
        let x = (s.good d).clock h_old in
        let x0 = x.0 in let x1 = x.1 in let x2 = x.2 in let x3 = x.3 in
        (omega (arith, x0, a), omega (arith, x1, g), omega (arith, x2, p), unread (cases_lt 0 (tally_at table after d).input_pins) h_old x3)

  -- ports are no sinks
  port_kept : (n : Name) → after.class (port n) ≡ w.class (port n)
  port_kept n = by (list_any (is_same_terminal (port n)) group) refl where
    by : (t : Bool) → list_any (is_same_terminal (port n)) group ≡ t → after.class (port n) ≡ w.class (port n)
    by false e = ap (λ (x : Bool). if x then w.count - 1 else w.class (port n)) e
    by true e =
        let x = any_in (is_same_terminal (port n)) group e in
        let k = each x.0 x.1 in
        let wrong : None ≡ Some k.owner.name = ap (λ (t : Terminal). t.instance) (terminal_same (port n) x.0 x.2 ∙ k.is) in absurd (cc wrong)

  below_moved : (m : Mark) → In m all → after.class m.terminal < w.count
  below_moved m h = elim (moved_or m h) [
    | inl e ↦ let x = s.below m h in omega (arith, e, x)
    | inr e ↦ let x = e.1 in omega (arith, x, low_to)
  ]

  pub move_sane : IsSane l table clocks after
  move_sane = record {
    made = s.made;
    below = below_moved;
    good = good_moved;
    high_low = let x = s.high_low in let e = port_kept vdd in omega (arith, x, e);
    low_low = let x = s.low_low in let e = port_kept vss in omega (arith, x, e);
    high = subst (λ (x : ℕ). IsFine (tally_at table after x)) (sym (port_kept vdd)) (move_keeps (w.class (port vdd)) s.high);
    low = subst (λ (x : ℕ). IsFine (tally_at table after x)) (sym (port_kept vss)) (move_keeps (w.class (port vss)) s.low);
  }
