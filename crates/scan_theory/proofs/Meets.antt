-- A netlist with a scan path meets what the stages ask, where the given one does.
use Rattle.std.proofs.Common.{◌≡◌, ◌≢◌, ◌⊎◌, inl, inr, ℕ, zero, suc, ◌+◌, ◌-◌, ◌*◌, ◌<◌, ◌≤◌, Bool, true, false, List, [], ◌∷◌, length, map, Some, None, refl, sym, ap, ◌∙◌, subst, arith}
use Rattle.std.specs.Prelude.{IsTrue}
use Rattle.std.specs.List.{list_any}
use Rattle.std.proofs.lemmas.Bool.{cases_lt, cond-false}
use Rattle.vlsi_base.specs.declared.name.Name.{Name}
use Rattle.vlsi_base.specs.declared.name.Port.{Port}
use Rattle.vlsi_base.specs.declared.name.Dir.TheVariants as dir
use Rattle.vlsi_base.specs.declared.name.Terminal.{Terminal}
use Rattle.vlsi_base.specs.Name.{is_supply}
use Rattle.vlsi_base.specs.Names.{vdd, vss}
use Rattle.vlsi_base.specs.Member.{In}
use Rattle.machine_core.specs.Named.{is_same_name}
use Rattle.machine_core.proofs.Names.{same_name-true}
use Rattle.machine_core.specs.Machine.{is_input}
use Rattle.cell_model.specs.Cell.{Function, gate, flip_flop, other, opaque, pin_ports, cell_inputs}
use Rattle.cell_model.specs.Library.{Library, IsPlain}
use Rattle.cell_model.proofs.Members.{All-from}
use Rattle.cell_pins.specs.Pins.{supply, all_ports}
use Rattle.cell_pins.specs.Follows.{DependsAtOnce}
use Rattle.cell_pins.proofs.Sound.{pin_names, member_at as in_from_place}
use Rattle.net_core.specs.declared.pins.ModelPin.{ModelPin}
use Rattle.net_core.specs.declared.pins.ModelPins.{ModelPins}
use Rattle.net_core.specs.declared.tally.Role.TheVariants as role
use Rattle.net_core.specs.Places.{Stands, IsThere}
use Rattle.net_core.specs.Netlist.{Instance, Netlist, port, pin_of, HasClass}
use Rattle.net_core.specs.Checks.{pins_named, Fits, Passes, IsRing, DependsOn, pin_role, pin_role_of, port_role}
use Rattle.net_right.specs.Condition.{MeetsCondition, AreTogether}
use Rattle.net_right.proofs.Lists.{in_place}
use Rattle.net_right.proofs.Places.{Which, which_port, which_pin, which as which_terminal, Does, does_port, does_pin}
use Rattle.net_theory.proofs.Basics.{In-names}
use Rattle.loon_fanout.specs.Sinks.{Wired, wired_of}
use Rattle.loon_fanout.specs.Limited.{IsOfCells}
use Rattle.loon_fanout.proofs.Picking.{any_in}
use Rattle.loon_fanout.proofs.PassLoops.{Plus, one, more, HasNoLoop, along}
use Rattle.loon_fanout.proofs.PassPins.{Arc, supply_pin}
use Rattle.loon_fanout.proofs.PassRounds.{Edge}
use Rattle.loon_fanout.proofs.Passing.{loops_n}
use Rattle.scan_theory.specs.Gates.{Gate, gate_instance, read_class, gate_class}
use Rattle.scan_theory.specs.Scan.{scin, test, scout, class_in, shown, on_supply, on_vdd, on_vss, Stage, port_class}
use Rattle.scan_theory.specs.Laws.{IsScanOf, ScannedMeets}
use Rattle.scan_theory.proofs.Wired.{has, told_below, sound_of_wired}
use Rattle.scan_theory.proofs.Cells.{Celled, made_of, GatePin, on_supply as at_supply, reads, drives, gate_pin, arc_of}
use Rattle.scan_theory.proofs.Chain.{read_in, class_signal, unfed}
use Rattle.scan_theory.proofs.Ports.{PortOf, port_of, is_scout, is_test, is_scin, is_vss, is_vdd, is_old, vdd_in, vss_in}
use Rattle.scan_theory.proofs.Scene.{gs, told, cell_at, gate_is, gate_celled, gate_row, out_class, split_instance, fed_cell, told_pin, told_port, told_gate, kept_gate, number_of, tied_in, supply_port, old_port, wired_after}

-- ---- loops

-- Steps from below c are steps of E that stay there, and others fall: so there is no loop where E has none.
falls : (E F : ℕ → ℕ → Type 0) (c : ℕ) → ((a b : ℕ) → F a b → (E a b × (a < c) × (b < c)) ⊎ ((c ≤ a) × (b < a))) → HasNoLoop E → HasNoLoop F
falls E F c each none a way = by (cases_lt a c) (walk a a way) where
  joined : (a b d : ℕ) → (E a b × (a < c) × (b < c)) ⊎ ((c ≤ a) × (b < a)) → (b < c → Plus E b d × (d < c)) × (c ≤ b → d < b)
      → (a < c → Plus E a d × (d < c)) × (c ≤ a → d < a)
  joined a b d (inl x) w = (
    λ low. let k = w.0 x.2 in (more x.0 k.0, k.1),
    λ high. let under = x.1 in absurd (omega (arith, under, high)),
  )
  joined a b d (inr y) w = (
    λ low. let over = y.0 in absurd (omega (arith, over, low)),
    λ high. elim (cases_lt b c) [
      | inl under ↦ let k = w.0 under in let last = k.1 in omega (arith, last, high)
      | inr over ↦ let last = w.1 over in let step = y.1 in omega (arith, last, step)
    ],
  )

  walk : (a b : ℕ) → Plus F a b → (a < c → Plus E a b × (b < c)) × (c ≤ a → b < a)
  walk a b (one s) = elim (each a b s) [
    | inl x ↦ (λ low. (one x.0, x.2), λ high. let under = x.1 in absurd (omega (arith, under, high)))
    | inr y ↦ (λ low. let over = y.0 in absurd (omega (arith, over, low)), λ high. y.1)
  ]
  walk a d (more {b = b} s rest) = joined a b d (each a b s) (walk b d rest)

  by : (a < c) ⊎ (c ≤ a) → (a < c → Plus E a a × (a < c)) × (c ≤ a → a < a) → ⊥
  by (inl low) w = none a (w.0 low).0
  by (inr high) w = let l = w.1 high in omega (arith, l)

module _ (l : Library) (table : List ModelPins) (n : Netlist) (path : List (List ℕ)) (r : Netlist) (h : IsScanOf l table n path r) where
  abbrev class : Terminal → ℕ
  class t = told l table n path r h t

  -- ---- the given netlist

  of_cells : (i : Instance) → In i n.instances → IsOfCells n l
  of_cells i i_in = record {
    found = λ j t. let k = cell_at l table n path r h j (in_from_place n.instances t.0 j t.1) in (k.cell, k.found, k.usable, k.pins);
    on_vdd = let both = h.met.tied i vdd (in_place i n.instances i_in) (inl refl) in (both.of_port.0, both.of_port.1);
    on_vss = let both = h.met.tied i vss (in_place i n.instances i_in) (inr refl) in (both.of_port.0, both.of_port.1);
  }

  owner_of : (a b : ℕ) → Plus (Edge table (wired_of n)) a b → (i : Instance) × In i n.instances
  owner_of a b (one e) = (e.owner, e.listed)
  owner_of a b (more e rest) = (e.owner, e.listed)

  loops_before : HasNoLoop (Edge table (wired_of n))
  loops_before a way =
      let i = owner_of a a way in
      loops_n false false n l table h.passed h.sound (of_cells i.0 i.1) h.table_is h.met.fits h.met.passes a way

  -- ---- steps of classes

  abbrev after : Wired
  after = record { ports = r.ports; instances = r.instances; class = class; count = r.count }

  abbrev Step : ℕ → ℕ → Type 0
  Step a b = (Edge table (wired_of n) a b × (a < n.count) × (b < n.count)) ⊎ ((n.count ≤ a) × (b < a))

  pin_below : (i : Instance) → In i n.instances → (q : ModelPin) → In q (pins_named table i.model) → class_in n (pin_of i.name q.name) < n.count
  pin_below i i_in q q_in =
      told_below table n h.sound h.met.fits (pin_of i.name q.name) (pin_role q) (does_pin i q (in_place i n.instances i_in) (in_place q (pins_named table i.model) q_in) refl refl)

  old_step : (i : Instance) → In i n.instances → (arc : Arc table i.model) → Step (class (pin_of i.name arc.output.name)) (class (pin_of i.name arc.input.name))
  old_step i i_in arc = by k.cell.function refl k.usable.function (arc_of table i.model k.cell k.row arc) where
    k : Celled l table i
    k = cell_at l table n path r h i i_in

    kept : ((d c : Name) → k.cell.function ≡ flip_flop d c → ⊥) → Step (class (pin_of i.name arc.output.name)) (class (pin_of i.name arc.input.name))
    kept simple =
        let out = kept_gate l table n path r h i i_in k.cell k.found simple arc.output.name in
        let into = kept_gate l table n path r h i i_in k.cell k.found simple arc.input.name in
        let low_out = pin_below i i_in arc.output arc.known in
        let low_in = pin_below i i_in arc.input (in_from_place (pins_named table i.model) arc.place arc.input arc.stands) in
        inl (record { owner = i; listed = i_in; arc = arc; at = sym out; reads = sym into }, omega (arith, low_out, out), omega (arith, low_in, into))

    by : (f : Function) → k.cell.function ≡ f → IsPlain k.cell k.cell.function → DependsAtOnce k.cell.function arc.output.name arc.input.name
        → Step (class (pin_of i.name arc.output.name)) (class (pin_of i.name arc.input.name))
    by (gate e) is plain depends = kept (λ d c f. let never : gate e ≡ flip_flop d c = sym is ∙ f in absurd cc)
    by (flip_flop d c) is plain depends = absurd (subst (λ (f : Function). DependsAtOnce f arc.output.name arc.input.name) is depends)
    by (other m) is plain depends = absurd (subst (λ (f : Function). IsPlain k.cell f) is plain)
    by opaque is plain depends = absurd (subst (λ (f : Function). IsPlain k.cell f) is plain)

  enters_in : (q : ModelPin) → q.dir ≡ dir.In → pin_role q ≡ role.OutputPin → ⊥
  enters_in q e f = by q.is_clock (ap (λ d. pin_role_of d q.is_clock) (sym e) ∙ f) where
    by : (b : Bool) → pin_role_of dir.In b ≡ role.OutputPin → ⊥
    by true x = absurd cc
    by false x = absurd cc

  leaves_out : (q : ModelPin) → q.dir ≡ dir.Out → pin_role q ≡ role.InputPin → ⊥
  leaves_out q e f = let never : role.OutputPin ≡ role.InputPin = ap (λ d. pin_role_of d q.is_clock) (sym e) ∙ f in absurd cc

  gate_step : (g : Gate) (g_in : In g (gs l table n path r h)) (arc : Arc table g.cell.name) → Step (class (pin_of g.name arc.output.name)) (class (pin_of g.name arc.input.name))
  gate_step g g_in arc =
      let b = gate_is l table n path r h g g_in in
      let row = gate_row l table n path r h g g_in in
      let depends : DependsAtOnce (gate b.0.expr) arc.output.name arc.input.name =
      subst (λ (f : Function). DependsAtOnce f arc.output.name arc.input.name) b.0.is (arc_of table g.cell.name g.cell row arc) in
      let k = number_of l table n path r h g g_in in
      let number = k.shows in
      let out : class (pin_of g.name arc.output.name) ≡ g.shows = from (gate_pin l table g.cell b.0 row arc.output arc.known) in
      let into : class (pin_of g.name arc.input.name) < g.shows =
      to depends.0 depends.1 (gate_pin l table g.cell b.0 row arc.input (in_from_place (pins_named table g.cell.name) arc.place arc.input arc.stands)) in
      inr (omega (arith, out, number), omega (arith, out, into)) where
        from : GatePin g.cell (gate_is l table n path r h g g_in).0.out arc.output → class (pin_of g.name arc.output.name) ≡ g.shows
        from (at_supply e is) = absurd (leaves_out arc.output arc.gives is)
        from (reads e is) = absurd (leaves_out arc.output arc.gives is)
        from (drives e is) = told_gate l table n path r h g g_in arc.output.name ∙ ap (gate_class (on_vdd n) (on_vss n) g) e ∙ out_class l table n path r h g g_in

        to : arc.input.name ≢ vdd → arc.input.name ≢ vss → GatePin g.cell (gate_is l table n path r h g g_in).0.out arc.input → class (pin_of g.name arc.input.name) < g.shows
        to no_vdd no_vss (at_supply (inl e) is) = absurd (no_vdd e)
        to no_vdd no_vss (at_supply (inr e) is) = absurd (no_vss e)
        to no_vdd no_vss (drives e is) = absurd (enters_in arc.input arc.takes is)
        to no_vdd no_vss (reads inside is) =
            let low = (number_of l table n path r h g g_in).reads (read_class (cell_inputs g.cell) g.reads g.shows arc.input.name)
            (read_in (cell_inputs g.cell) g.reads g.shows arc.input.name (gate_is l table n path r h g g_in).1 inside) in
            let same = told_gate l table n path r h g g_in arc.input.name ∙ class_signal (on_vdd n) (on_vss n) g arc.input.name no_vdd no_vss in
            omega (arith, low, same)

  step_of : (a b : ℕ) → Edge table after a b → Step a b
  step_of a b e =
      subst (λ (x : ℕ). Step x b) e.at (subst (λ (y : ℕ). Step (class (pin_of e.owner.name e.arc.output.name)) y) e.reads
      (by e.owner (split_instance l table n path r h e.owner e.listed) e.arc)) where
        by : (i : Instance) → In i n.instances ⊎ ((g : Gate) × In g (gs l table n path r h) × (gate_instance g ≡ i)) → (arc : Arc table i.model)
            → Step (class (pin_of i.name arc.output.name)) (class (pin_of i.name arc.input.name))
        by i (inl old) arc = old_step i old arc
        by i (inr g) arc =
            subst (λ (j : Instance). (x : Arc table j.model) → Step (class (pin_of j.name x.output.name)) (class (pin_of j.name x.input.name))) g.2
            (λ x. gate_step g.0 g.1 x) arc

  loops_after : HasNoLoop (Edge table after)
  loops_after = falls (Edge table (wired_of n)) (Edge table after) n.count step_of loops_before

  edge_of : (a b : Terminal) → DependsOn table r a b → Edge table after (class a) (class b)
  edge_of a b d = record {
    owner = d.owner;
    listed = in_from_place r.instances d.is_pin.listed.0 d.owner d.is_pin.listed.1;
    arc = record {
      output = d.output;
      known = in_from_place (pins_named table d.owner.model) d.is_pin.known.0 d.output d.is_pin.known.1;
      gives = d.gives;
      place = d.place;
      depends = in_from_place d.output.depends_on d.depends.0 d.place d.depends.1;
      input = d.input;
      stands = d.there;
      takes = d.takes;
    };
    at = ap class (sym d.is_pin.is);
    reads = (h.scanned.classes (pin_of d.owner.name d.input.name) b d.class d.class d.reads d.joined).0 refl;
  }

  rings_after : (ring : List Terminal) → IsRing table r ring → ⊥
  rings_after [] g = let some = g.some in absurd (omega (arith, some))
  rings_after (a ∷ rest) g =
      loops_after (class a) (along (Edge table after) class a rest (class a) (λ k x y p q. edge_of x y (g.next k x y p q)) (λ x p.
      let e : length rest ≡ suc (length rest) - 1 = omega arith in
      edge_of x a (g.close x a (subst (λ (k : ℕ). Stands (a ∷ rest) k x) e p) refl)))

  -- ---- it fits the table

  pub celled_after : (i : Instance) → In i r.instances → Celled l table i
  celled_after i i_in = elim (split_instance l table n path r h i i_in) [
    | inl old ↦ cell_at l table n path r h i old
    | inr g ↦ subst (λ (j : Instance). Celled l table j) g.2 (gate_celled l table n path r h g.0 g.1)
  ]

  pub fits_after : Fits r table
  fits_after = record {
    table_is = h.met.fits.table_is;
    listed = All-from (λ (i : Instance). IsThere (map (λ m. m.model) table) i.model) r.instances (λ i i_in. (celled_after i i_in).known);
    pins = All-from (λ (i : Instance). i.pins ≡ map (λ p. p.name) (pins_named table i.model)) r.instances (λ i i_in.
        let k = celled_after i i_in in k.pins ∙ sym (pin_names k.cell.function (all_ports k.cell) (all_ports k.cell) (pins_named table i.model) k.row));
  }

  passes_after : Passes table r
  passes_after = record {
    classes = sound_of_wired table r h.sound_after fits_after class (wired_after l table n path r h) h.scanned.classes;
    rings = rings_after;
  }

  -- ---- supplies

  supplies_after : (p : Port) → IsThere r.ports p → IsTrue (is_supply p.name.text) → (p.name.bit ≡ None) × (p.dir ≡ dir.In)
  supplies_after p t is = by (port_of n.ports p (subst (λ (ps : List Port). In p ps) h.scanned.ports (in_from_place r.ports t.0 p t.1))) where
    by : PortOf n.ports p → (p.name.bit ≡ None) × (p.dir ≡ dir.In)
    by (is_scout e) = let never : false ≡ true = subst (λ (q : Port). IsTrue (is_supply q.name.text)) e is in absurd cc
    by (is_test e) = subst (λ (q : Port). (q.name.bit ≡ None) × (q.dir ≡ dir.In)) (sym e) (refl, refl)
    by (is_scin e) = subst (λ (q : Port). (q.name.bit ≡ None) × (q.dir ≡ dir.In)) (sym e) (refl, refl)
    by (is_vss e) = subst (λ (q : Port). (q.name.bit ≡ None) × (q.dir ≡ dir.In)) (sym e) (refl, refl)
    by (is_vdd e) = subst (λ (q : Port). (q.name.bit ≡ None) × (q.dir ≡ dir.In)) (sym e) (refl, refl)
    by (is_old i) = h.met.supplies p (in_place p n.ports i) is

  -- the class of a supply pin is that of the port
  old_tied : (i : Instance) → In i n.instances → (name : Name) → (name ≡ vdd) ⊎ (name ≡ vss) → class (pin_of i.name name) ≡ class_in n (port name)
  old_tied i i_in name which =
      told_pin l table n path r h i i_in name ∙ unfed n h.scanned.stages 0 (pin_of i.name name) not_fed ∙ tied_in l table n path r h i i_in name which where
        not_fed : (s : Stage) → In s h.scanned.stages → pin_of i.name name ≡ pin_of s.name s.load → ⊥
        not_fed s s_in e =
            let k = cell_at l table n path r h i i_in in
            let f = fed_cell l table n path r h s s_in i i_in k.cell k.found (ap (λ (t : Terminal). t.instance) e) in
            let plain : IsPlain k.cell (flip_flop s.load f.0) = subst (λ (u : Function). IsPlain k.cell u) f.1 k.usable.function in
            let signal = k.signals s.load (In-names (λ (p : Port). is_input p.dir) (pin_ports k.cell) s.load plain.2) in
            let named : name ≡ s.load = ap (λ (t : Terminal). t.pin) e in
            elim which [ inl x ↦ signal.0 (sym named ∙ x) | inr x ↦ signal.1 (sym named ∙ x) ]

  old_supply : (i : Instance) → In i n.instances → (name : Name) → (name ≡ vdd) ⊎ (name ≡ vss) → class (pin_of i.name name) ≡ class (port name)
  old_supply i i_in name which =
      let p = supply_port l table n path r h i i_in name which in
      old_tied i i_in name which ∙ ap (λ (x : Name). class_in n (port x)) (sym p.2) ∙ sym (old_port l table n path r h p.0 p.1) ∙ ap (λ (x : Name). class (port x)) p.2

  gate_supply : (g : Gate) → In g (gs l table n path r h) → (name : Name) → (name ≡ vdd) ⊎ (name ≡ vss) → class (pin_of g.name name) ≡ class (port name)
  gate_supply g g_in name (inl e) = subst (λ (x : Name). class (pin_of g.name x) ≡ class (port x)) (sym e) (told_gate l table n path r h g g_in vdd ∙ sym (told_port l table n path r h vdd))
  gate_supply g g_in name (inr e) = subst (λ (x : Name). class (pin_of g.name x) ≡ class (port x)) (sym e) (told_gate l table n path r h g g_in vss ∙ sym (told_port l table n path r h vss))

  supply_told : (i : Instance) → In i r.instances → (name : Name) → (name ≡ vdd) ⊎ (name ≡ vss) → class (pin_of i.name name) ≡ class (port name)
  supply_told i i_in name which = elim (split_instance l table n path r h i i_in) [
    | inl old ↦ old_supply i old name which
    | inr g ↦ subst (λ (j : Instance). class (pin_of j.name name) ≡ class (port name)) g.2 (gate_supply g.0 g.1 name which)
  ]

  port_there : (name : Name) → (name ≡ vdd) ⊎ (name ≡ vss) → (p : Port) × In p r.ports × (p.name ≡ name)
  port_there name (inl e) = (supply vdd, subst (λ (ps : List Port). In (supply vdd) ps) (sym h.scanned.ports) (vdd_in n.ports), sym e)
  port_there name (inr e) = (supply vss, subst (λ (ps : List Port). In (supply vss) ps) (sym h.scanned.ports) (vss_in n.ports), sym e)

  tied_after : (i : Instance) (name : Name) → IsThere r.instances i → (name ≡ vdd) ⊎ (name ≡ vss) → AreTogether r name i.name
  tied_after i name t which =
      let i_in = in_from_place r.instances t.0 i t.1 in
      let p = port_there name which in
      let at_port : Does table r (port name) (port_role p.0) = does_port p.0 (in_place p.0 r.ports p.1) (ap port (sym p.2)) refl in
      let q = supply_pin l table i (made_of l table i (celled_after i i_in)) name which in
      let at_pin : Does table r (pin_of i.name name) (pin_role q.0) = does_pin i q.0 t (in_place q.0 (pins_named table i.model) q.1) (ap (pin_of i.name) (sym q.2)) refl in
      let on_port = has table r h.sound_after fits_after (port name) (port_role p.0) at_port in
      let on_pin = has table r h.sound_after fits_after (pin_of i.name name) (pin_role q.0) at_pin in
      let same : class_in r (pin_of i.name name) ≡ class_in r (port name) =
      (h.scanned.classes (pin_of i.name name) (port name) (class_in r (pin_of i.name name)) (class_in r (port name)) on_pin on_port).1 (supply_told i i_in name which) in
      record { class = class_in r (port name); of_port = on_port; of_pin = subst (λ (k : ℕ). HasClass r (pin_of i.name name) k) same on_pin }

  -- ---- ports are apart

  -- the ports that are added, by the places of their classes
  abbrev port_number : ℕ → Name
  port_number zero = scin
  port_number (suc zero) = test
  port_number (suc (suc zero)) = vdd
  port_number (suc (suc (suc zero))) = vss
  port_number (suc (suc (suc (suc k)))) = scout

  data PortAt (name : Name) : Type 0 where
    old_at : (p : Port) → In p n.ports → p.name ≡ name → class (port name) ≡ class_in n (port name) → PortAt name
    new_at : (k : ℕ) → name ≡ port_number k → class (port name) ≡ n.count + k → PortAt name

  supply_at : (name : Name) (k : ℕ) → port_number k ≡ name → port_class n h.scanned.stages name ≡ on_supply n name k → PortAt name
  supply_at name k is e = by (list_any (λ (x : Port). is_same_name x.name name) n.ports) refl where
    by : (b : Bool) → list_any (λ (x : Port). is_same_name x.name name) n.ports ≡ b → PortAt name
    by true f =
        let p = any_in (λ (x : Port). is_same_name x.name name) n.ports f in
        let named : p.0.name ≡ name = same_name-true p.0.name name p.2 in
        old_at p.0 p.1 named (subst (λ (x : Name). class (port x) ≡ class_in n (port x)) named (old_port l table n path r h p.0 p.1))
    by false f = new_at k (sym is) (told_port l table n path r h name ∙ e ∙ cond-false (list_any (λ x. is_same_name x.name name) n.ports) (class_in n (port name)) (n.count + k) f)

  port_at : (p : Port) → PortOf n.ports p → PortAt p.name
  port_at p (is_scout e) = subst (λ (q : Port). PortAt q.name) (sym e)
      (let far : shown n (3 * length h.scanned.stages + 2) ≡ n.count + (4 + (3 * length h.scanned.stages + 2)) = omega arith in
      new_at (4 + (3 * length h.scanned.stages + 2)) (scout_number (3 * length h.scanned.stages + 2)) (told_port l table n path r h scout ∙ far)) where
        scout_number : (m : ℕ) → scout ≡ port_number (4 + m)
        scout_number m = let e : 4 + m ≡ suc (suc (suc (suc m))) = omega arith in subst (λ (k : ℕ). scout ≡ port_number k) (sym e) refl
  port_at p (is_test e) = subst (λ (q : Port). PortAt q.name) (sym e) (new_at 1 refl (told_port l table n path r h test))
  port_at p (is_scin e) = subst (λ (q : Port). PortAt q.name) (sym e)
      (let zero_more : n.count ≡ n.count + 0 = omega arith in new_at 0 refl (told_port l table n path r h scin ∙ zero_more))
  port_at p (is_vss e) = subst (λ (q : Port). PortAt q.name) (sym e) (supply_at vss 3 refl refl)
  port_at p (is_vdd e) = subst (λ (q : Port). PortAt q.name) (sym e) (supply_at vdd 2 refl refl)
  port_at p (is_old i) = old_at p i refl (old_port l table n path r h p i)

  port_named : (name : Name) (k : ℕ) → HasClass r (port name) k → PortAt name
  port_named name k c = by (which_terminal r (port name) (c.0, c.1)) where
    by : Which r (port name) → PortAt name
    by (which_port p t e) =
        subst PortAt (ap (λ (x : Terminal). x.pin) e) (port_at p (port_of n.ports p (subst (λ (ps : List Port). In p ps) h.scanned.ports (in_from_place r.ports t.0 p t.1))))
    by (which_pin i x t u e) = let never : Some i.name ≡ None = ap (λ (y : Terminal). y.instance) e in absurd cc

  port_class_in : (name : Name) (p : Port) → In p n.ports → p.name ≡ name → HasClass n (port name) (class_in n (port name))
  port_class_in name p p_in e = has table n h.sound h.met.fits (port name) (port_role p) (does_port p (in_place p n.ports p_in) (ap port (sym e)) refl)

  low_at : (name : Name) (p : Port) → In p n.ports → p.name ≡ name → class_in n (port name) < n.count
  low_at name p p_in e = told_below table n h.sound h.met.fits (port name) (port_role p) (does_port p (in_place p n.ports p_in) (ap port (sym e)) refl)

  apart_at : (a b : Name) → PortAt a → PortAt b → class (port a) ≡ class (port b) → a ≡ b
  apart_at a b (old_at p p_in e f) (old_at q q_in g i) s =
      h.met.apart a b (class_in n (port b)) (subst (λ (k : ℕ). HasClass n (port a) k) (sym f ∙ s ∙ i) (port_class_in a p p_in e)) (port_class_in b q q_in g)
  apart_at a b (old_at p p_in e f) (new_at k g i) s = absurd (let low = low_at a p p_in e in omega (arith, low, f, i, s))
  apart_at a b (new_at k g i) (old_at p p_in e f) s = absurd (let low = low_at b p p_in e in omega (arith, low, f, i, s))
  apart_at a b (new_at k e f) (new_at j g i) s = let same : k ≡ j = omega (arith, f, i, s) in e ∙ ap port_number same ∙ sym g

  apart_after : (a b : Name) (k : ℕ) → HasClass r (port a) k → HasClass r (port b) k → a ≡ b
  apart_after a b k p q = apart_at a b (port_named a k p) (port_named b k q) ((h.scanned.classes (port a) (port b) k k p q).0 refl)

  pub meets_after : MeetsCondition table r
  meets_after = record { fits = fits_after; passes = passes_after; supplies = supplies_after; tied = tied_after; apart = apart_after }

pub scanned_meets : ScannedMeets
scanned_meets l table n path r h = meets_after l table n path r h
