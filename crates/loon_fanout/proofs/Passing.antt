-- A limited netlist passes its checks where the given one does.
use Rattle.std.proofs.Common.{◌≡◌, ◌⊎◌, inl, inr, ℕ, suc, ◌+◌, ◌-◌, ◌<◌, ◌≤◌, Bool, true, false, List, [], ◌∷◌, ◌++◌, length, map, nat_eq, Some, refl, sym, ap, ◌∙◌, subst, arith, append_assoc, if◌then◌else◌}
use Rattle.std.specs.List.{flat_map, zip, fold}
use Rattle.std.proofs.lemmas.Bool.{cases_lt, eqb-true, eq-eqb}
use Rattle.std.proofs.lemmas.Grind.{flat_map-append, fold-append}
use Rattle.std.proofs.lemmas.List.{map-append}
use Rattle.std.proofs.lemmas.Option.{same_Some, slice_get_within}
use Rattle.vlsi_base.specs.declared.name.Name.{Name}
use Rattle.vlsi_base.specs.declared.name.Port.{Port}
use Rattle.vlsi_base.specs.declared.name.Dir.TheVariants as dir
use Rattle.vlsi_base.specs.declared.name.Terminal.{Terminal}
use Rattle.vlsi_base.specs.Names.{vdd, vss}
use Rattle.vlsi_base.specs.Member.{In, here, there}
use Rattle.cell_model.specs.Cell.{Cell}
use Rattle.cell_model.specs.Library.{Library, cell_of, IsUsable}
use Rattle.cell_model.specs.Usable.{IsFormed}
use Rattle.cell_model.proofs.Members.{In-map, In-map_back, All-In, All-from}
use Rattle.cell_checks.specs.Checked.{IsChecked as HasPassed}
use Rattle.cell_pins.specs.Pins.{all_ports}
use Rattle.cell_pins.specs.Table.{ArePins, IsListed, IsTableOf}
use Rattle.cell_pins.proofs.Sound.{pin_names, member_at as in_from_place}
use Rattle.net_core.specs.declared.pins.ModelPin.{ModelPin}
use Rattle.net_core.specs.declared.pins.ModelPins.{ModelPins}
use Rattle.net_core.specs.declared.tally.Role.{Role}
use Rattle.net_core.specs.declared.tally.Tally.{Tally}
use Rattle.net_core.specs.Places.{Stands, IsThere}
use Rattle.net_core.specs.Netlist.{Instance, Netlist as InMemory, IsNetlist, port, pin_of, pins_of, terminals, HasClass}
use Rattle.net_core.specs.Checks.{pins_named, Fits, port_role, pin_role, pin_roles, roles, tally_of, tally, is_clock_pin, all_clocks, HasSoundClasses, IsPinOf, DependsOn, IsRing, Passes}
use Rattle.net_core.proofs.Finishing.{netlist_terminals_once}
use Rattle.net_core.proofs.Namings.{turn_reached}
use Rattle.net_core.proofs.Rings.{class_below, at_place}
use Rattle.net_right.proofs.Lists.{in_place, map_twice}
use Rattle.net_right.proofs.Places.{has_class}
use Rattle.net_right.proofs.Models.{named_cell, model_found}
use Rattle.loon_fanout.specs.Sinks.{Wired, sinks, is_same_terminal, wired_of}
use Rattle.loon_wiring.specs.Repeaters.{Repeater}
use Rattle.loon_fanout.specs.Limited.{IsLimited, within, round, IsBuffered, IsOfCells}
use Rattle.loon_fanout.specs.Laws.{gate_named, IsTied, BufferedPasses}
use Rattle.loon_fanout.proofs.Picking.{flat_in, twice_of}
use Rattle.loon_fanout.proofs.Terminals.{terminal_same, terminal_itself, class_is}
use Rattle.loon_fanout.proofs.Splitting.{sink_at}
use Rattle.loon_fanout.proofs.RightStates.{IsGateCell}
use Rattle.loon_fanout.proofs.RightRounds.{some_of}
use Rattle.loon_fanout.proofs.RightStay.{repeats, gate_cell, WasLimited, unchanged, by_gates, how, all_instances, ports_same, new_names}
use Rattle.loon_fanout.proofs.Remaining.{still_of_cells}
use Rattle.loon_fanout.proofs.OneClass.{AreGood, good_instances}
use Rattle.loon_fanout.proofs.PassLoops.{Chain, Ring, ring_in, chain_next, chain_last, Plus, one, more, HasNoLoop, along}
use Rattle.net_right.proofs.Tallies.{input_port, output_port, input_pin, clock_pin}
use Rattle.loon_fanout.proofs.PassTallies.{Mark, tally_in, Counts, nowhere, somewhere, told_alike, output_pin, input_ports, output_ports, input_pins, clock_pins, output_pins, IsGood, IsFine, no_fault, good_of}
use Rattle.loon_fanout.proofs.PassPins.{port_mark, pin_mark, instance_marks, marks, pin_marked, IsMade, supply_pin, gate_pin, GatePin, on_supply, reads, drives}
use Rattle.loon_fanout.proofs.PassSteps.{all_marks, tally_at, IsSane}
use Rattle.loon_fanout.proofs.PassRounds.{Edge, read_is_fine, Limits, limited_passes}

-- ---- terminals and roles of a netlist in memory, as marks

abbrev terminal_of : Mark → Terminal
terminal_of m = m.terminal

abbrev role_of : Mark → Role
role_of m = m.role

pins_marked : (table : List ModelPins) (is : List Instance) → ((i : Instance) → In i is → i.pins ≡ map (λ p. p.name) (pins_named table i.model))
    → map terminal_of (flat_map (instance_marks table) is) ≡ flat_map pins_of is
pins_marked table [] each = refl
pins_marked table (i ∷ is) each =
    map-append terminal_of (instance_marks table i) (flat_map (instance_marks table) is)
    ∙ ap (λ (ts : List Terminal). ts ++ map terminal_of (flat_map (instance_marks table) is))
    (map_twice terminal_of (pin_mark i.name) (pins_named table i.model) ∙ sym (map_twice (pin_of i.name) (λ (p : ModelPin). p.name) (pins_named table i.model)) ∙ ap (map (pin_of i.name)) (sym (each i here)))
    ∙ ap (λ (ts : List Terminal). pins_of i ++ ts) (pins_marked table is (λ x h. each x (there h)))

roles_marked : (table : List ModelPins) (is : List Instance) → map role_of (flat_map (instance_marks table) is) ≡ pin_roles table is
roles_marked table [] = refl
roles_marked table (i ∷ is) =
    map-append role_of (instance_marks table i) (flat_map (instance_marks table) is)
    ∙ ap (λ (rs : List Role). rs ++ map role_of (flat_map (instance_marks table) is)) (map_twice role_of (pin_mark i.name) (pins_named table i.model))
    ∙ ap (λ (rs : List Role). map pin_role (pins_named table i.model) ++ rs) (roles_marked table is)

zip_maps : {A B C : Type 0} (f : A → B) (g : A → C) (xs : List A) → zip (map f xs) (map g xs) ≡ map (λ x. (f x, g x)) xs
zip_maps f g [] = refl
zip_maps {A} {B} {C} f g (x ∷ xs) = ap (λ (ps : List (B × C)). (f x, g x) ∷ ps) (zip_maps f g xs)

mapped_by : {A : Type 0} (f : A → ℕ) (ts : List A) (ks : List ℕ) → length ks ≡ length ts → ((i : ℕ) (t : A) (k : ℕ) → Stands ts i t → Stands ks i k → f t ≡ k) → map f ts ≡ ks
mapped_by f [] [] many each = refl
mapped_by f [] (k ∷ ks) many each = absurd (omega (arith, many))
mapped_by f (t ∷ ts) [] many each = absurd (omega (arith, many))
mapped_by f (t ∷ ts) (k ∷ ks) many each =
    ap (λ (x : ℕ). x ∷ map f ts) (each 0 t k refl refl) ∙ ap (λ (xs : List ℕ). k ∷ xs) (mapped_by f ts ks (omega (arith, many)) (λ i u c p q. each (suc i) u c p q))

module _ (table : List ModelPins) (n : InMemory) (is : IsNetlist n) (fits : Fits n table) where
  abbrev all_of : List Mark
  all_of = marks table n.ports n.instances

  marks_terminals : map terminal_of all_of ≡ terminals n
  marks_terminals =
      map-append terminal_of (map port_mark n.ports) (flat_map (instance_marks table) n.instances)
      ∙ ap (λ (ts : List Terminal). ts ++ map terminal_of (flat_map (instance_marks table) n.instances)) (map_twice terminal_of port_mark n.ports)
      ∙ ap (λ (ts : List Terminal). map (λ (p : Port). port p.name) n.ports ++ ts)
      (pins_marked table n.instances (λ i h. All-In (λ (x : Instance). x.pins ≡ map (λ p. p.name) (pins_named table x.model)) n.instances fits.pins i h))

  marks_roles : map role_of all_of ≡ roles table n
  marks_roles =
      map-append role_of (map port_mark n.ports) (flat_map (instance_marks table) n.instances)
      ∙ ap (λ (rs : List Role). rs ++ map role_of (flat_map (instance_marks table) n.instances)) (map_twice role_of port_mark n.ports)
      ∙ ap (λ (rs : List Role). map port_role n.ports ++ rs) (roles_marked table n.instances)

  class_at : (t : Terminal) (k : ℕ) → HasClass n t k → (wired_of n).class t ≡ k
  class_at t k h = class_is (terminals n) n.classes t h.0 k (netlist_terminals_once n is) h.1 h.2

  classes_are : map (wired_of n).class (terminals n) ≡ n.classes
  classes_are = mapped_by (wired_of n).class (terminals n) n.classes is.each (λ i t k p q. class_at t k (i, p, q))

  pub tally_is : (c : ℕ) → tally table n c ≡ tally_in (wired_of n).class all_of c
  tally_is c =
      ap (λ (rs : List Role). tally_of (zip rs n.classes) c) (sym marks_roles)
      ∙ ap (λ (ks : List ℕ). tally_of (zip (map role_of all_of) ks) c)
      (sym classes_are ∙ ap (map (wired_of n).class) (sym marks_terminals) ∙ map_twice (wired_of n).class terminal_of all_of)
      ∙ ap (λ (ps : List (Role × ℕ)). tally_of ps c) (zip_maps role_of (λ (m : Mark). (wired_of n).class m.terminal) all_of)

  pub mark_there : (m : Mark) → In m all_of → IsThere (terminals n) m.terminal
  mark_there m h = in_place m.terminal (terminals n) (subst (λ (ts : List Terminal). In m.terminal ts) marks_terminals (In-map terminal_of m all_of h))

  pub class_here : (t : Terminal) → IsThere (terminals n) t → HasClass n t ((wired_of n).class t)
  class_here t h = let c = has_class n is t h in subst (λ (x : ℕ). HasClass n t x) (sym (class_at t c.0 c.1)) c.1

  pub mark_below : (m : Mark) → In m all_of → (wired_of n).class m.terminal < n.count
  mark_below m h = class_below n is m.terminal ((wired_of n).class m.terminal) (class_here m.terminal (mark_there m h))

-- ---- the given netlist

module _ (tracks all : Bool) (n : InMemory) (l : Library) (table : List ModelPins) (passed : HasPassed tracks l) (is : IsNetlist n) (of_cells : IsOfCells n l)
    (of : IsTableOf l all table) (fits : Fits n table) (passes : Passes table n) where
  abbrev w : Wired
  w = wired_of n

  abbrev clocks : ℕ
  clocks = all_clocks (roles table n)

  pub row_of : (model : List ℕ) (c : Cell) → cell_of l model ≡ Some c → IsUsable c → ArePins c.function (all_ports c) (all_ports c) (pins_named table model)
  row_of model c found usable =
      let m = model_found (IsListed all) l.cells table c model of found (inr usable) in
      subst (λ (ps : List ModelPin). ArePins c.function (all_ports c) (all_ports c) ps) (sym m.pins) m.is.pins

  made_n : (i : Instance) → In i n.instances → IsMade l table i
  made_n i h =
      let c = of_cells.found i (in_place i n.instances h) in
      let formed = All-In IsFormed l.cells passed.formed c.0 (named_cell l.cells i.model c.0 c.1).0 in
      record { cell = c.0; found = c.1; usable = c.2; signals = formed.signals; row = row_of i.model c.0 c.1 c.2 }

  pub good_n : AreGood l n.instances
  good_n = good_instances l n is of_cells

  good_low : (c : ℕ) → c < n.count → IsGood clocks (tally_at table w c)
  good_low c low = subst (λ (t : Tally). IsGood clocks t) (tally_is table n is fits c) (good_of clocks (tally table n c) (λ f. passes.classes f c low))

  good_high : (c : ℕ) → n.count ≤ c → IsGood clocks (tally_at table w c)
  good_high c high = record {
    driven = λ h. let a = empty (λ t. t.input_pins) input_pin input_pins in
        let b = empty (λ t. t.clock_pins) clock_pin clock_pins in
        let d = empty (λ t. t.output_ports) output_port output_ports in absurd (omega (arith, h, a, b, d));
    once = let a = empty (λ t. t.input_ports) input_port input_ports in let b = empty (λ t. t.output_pins) output_pin output_pins in omega (arith, a, b);
    clock = λ h. let b = empty (λ t. t.clock_pins) clock_pin clock_pins in absurd (omega (arith, h, b));
  } where
    empty : (many : Tally → ℕ) (adds : Role → ℕ) → Counts many adds → many (tally_at table w c) ≡ 0
    empty many adds h = nowhere many adds h w.class (all_marks table w) c (λ m i. inr (λ e. let low = mark_below table n is fits m i in absurd (omega (arith, low, e, high))))

  good_all : (c : ℕ) → IsGood clocks (tally_at table w c)
  good_all c = elim (cases_lt c n.count) [ inl low ↦ good_low c low | inr high ↦ good_high c high ]

  -- an instance's supplies are tied to ports
  fine_supply : IsTied n → (i : Instance) → In i n.instances → (name : Name) → (name ≡ vdd) ⊎ (name ≡ vss) → IsFine (tally_at table w (w.class (port name)))
  fine_supply tied i h name which =
      let t = tied i name (in_place i n.instances h) which in
      let q = supply_pin l table i (made_n i h) name which in
      let class : w.class (pin_of i.name q.0.name) ≡ w.class (port name) =
      ap (λ (x : Name). w.class (pin_of i.name x)) q.2 ∙ class_at table n is fits (pin_of i.name name) t.class t.of_pin ∙ sym (class_at table n is fits (port name) t.class t.of_port) in
      let r = somewhere (λ t. t.input_pins) input_pin input_pins w.class (all_marks table w) (w.class (port name)) (pin_mark i.name q.0) (pin_marked table n.ports n.instances i q.0 h q.1) class in
      let e : input_pin (pin_role q.0) ≡ 1 = ap input_pin q.3 in
      read_is_fine clocks (tally_at table w (w.class (port name))) (good_all (w.class (port name))) (omega (arith, r, e))

  pub sane_n : IsTied n → (i : Instance) → In i n.instances → IsSane l table clocks w
  sane_n tied i h = record {
    made = made_n;
    below = mark_below table n is fits;
    good = good_all;
    high_low = class_below n is (port vdd) (w.class (port vdd)) (class_here table n is fits (port vdd) of_cells.on_vdd);
    low_low = class_below n is (port vss) (w.class (port vss)) (class_here table n is fits (port vss) of_cells.on_vss);
    high = fine_supply tied i h vdd (inl refl);
    low = fine_supply tied i h vss (inr refl);
  }

  -- ---- a loop of classes is a ring of output pins

  -- an output pin in a class
  record Out (t : Terminal) (c : ℕ) : Type 0 where
    owner : Instance
    pin : ModelPin
    is_pin : IsPinOf table n owner pin t
    gives : pin.dir ≡ dir.Out
    joined : HasClass n t c

  has_mark : (i : Instance) (q : ModelPin) → In i n.instances → In q (pins_named table i.model) → HasClass n (pin_of i.name q.name) (w.class (pin_of i.name q.name))
  has_mark i q a b = class_here table n is fits (pin_of i.name q.name) (mark_there table n is fits (pin_mark i.name q) (pin_marked table n.ports n.instances i q a b))

  out_of : (c d : ℕ) (e : Edge table w c d) → Out (pin_of e.owner.name e.arc.output.name) c
  out_of c d e = record {
    owner = e.owner;
    pin = e.arc.output;
    is_pin = record { listed = in_place e.owner n.instances e.listed; known = in_place e.arc.output (pins_named table e.owner.model) e.arc.known; is = refl };
    gives = e.arc.gives;
    joined = subst (λ (x : ℕ). HasClass n (pin_of e.owner.name e.arc.output.name) x) e.at (has_mark e.owner e.arc.output e.listed e.arc.known);
  }

  edge_depends : (c d : ℕ) (e : Edge table w c d) (t : Terminal) → Out t d → DependsOn table n (pin_of e.owner.name e.arc.output.name) t
  edge_depends c d e t o = record {
    owner = e.owner;
    output = e.arc.output;
    is_pin = record { listed = in_place e.owner n.instances e.listed; known = in_place e.arc.output (pins_named table e.owner.model) e.arc.known; is = refl };
    gives = e.arc.gives;
    place = e.arc.place;
    input = e.arc.input;
    depends = in_place e.arc.place e.arc.output.depends_on e.arc.depends;
    there = e.arc.stands;
    takes = e.arc.takes;
    class = d;
    reads = subst (λ (x : ℕ). HasClass n (pin_of e.owner.name e.arc.input.name) x) e.reads
        (has_mark e.owner e.arc.input e.listed (in_from_place (pins_named table e.owner.model) e.arc.place e.arc.input e.arc.stands));
    other = o.owner;
    driver = o.pin;
    is_driver = o.is_pin;
    drives = o.gives;
    joined = o.joined;
  }

  -- output pins from one in class c to one that depends on class z
  record Way (c z : ℕ) : Type 0 where
    head : Terminal
    out : Out head c
    rest : List Terminal
    chain : (t : Terminal) → Out t z → Chain (DependsOn table n) head rest t

  way_of : (c z : ℕ) → Plus (Edge table w) c z → Way c z
  way_of c z (one e) = record { head = pin_of e.owner.name e.arc.output.name; out = out_of c z e; rest = []; chain = λ t o. edge_depends c z e t o }
  way_of c z (more {b = b} e later) =
      let r = way_of b z later in
      record { head = pin_of e.owner.name e.arc.output.name; out = out_of c b e; rest = r.head ∷ r.rest; chain = λ t o. (edge_depends c b e r.head r.out, r.chain t o) }

  ring_of : Ring (DependsOn table n) → ⊥
  ring_of g = passes.rings (g.start ∷ g.rest) (record {
    some = omega arith;
    once = twice_of (g.start ∷ g.rest) g.different;
    next = λ k a b p q. chain_next (DependsOn table n) g.start g.rest g.start g.round k a b p q;
    close = λ a b p q.
        let e : suc (length g.rest) - 1 ≡ length g.rest = omega arith in
        let f : Some g.start ≡ Some b = q in
        subst (λ (x : Terminal). DependsOn table n a x) (same_Some g.start b f)
        (chain_last (DependsOn table n) g.start g.rest g.start g.round a (subst (λ (k : ℕ). Stands (g.start ∷ g.rest) k a) e p));
  })

  pub loops_n : HasNoLoop (Edge table w)
  loops_n c way =
      let r = way_of c c way in
      ring_of (ring_in is_same_terminal terminal_same terminal_itself (DependsOn table n) r.head r.rest (r.chain r.head r.out))

-- ---- the limited netlist

-- nothing was put in, or a class had too many sinks
data Whether (l : Library) (limit : ℕ) (n k : Wired) : Type 0 where
  as_it_was : k ≡ n → Whether l limit n k
  crowded : (class : ℕ) → limit < length (sinks l n class) → Whether l limit n k

whether : (l : Library) (limit : ℕ) (b : Repeater) (names : List (List ℕ)) (n k : Wired) → IsLimited l limit b names n k → Whether l limit n k
whether l limit b names n k (within few) = as_it_was refl
whether l limit b names n k (round class rows large earlier groups many rest) = crowded class large

-- what a netlist in memory has of one with a class for each terminal
record IsSound (table : List ModelPins) (clocks : ℕ) (w : Wired) : Type 0 where
  good : (c : ℕ) → IsGood clocks (tally_at table w c)
  loops : HasNoLoop (Edge table w)

clock_free : (rs : List Role) (base : ℕ) → ((r : Role) → In r rs → is_clock_pin r ≡ false) → fold (λ (a : ℕ) (x : Role). a + (if is_clock_pin x then 1 else 0)) base rs ≡ base
clock_free [] base each = refl
clock_free (r ∷ rs) base each =
    let e : base + (if is_clock_pin r then 1 else 0) ≡ base = ap (λ (b : Bool). base + (if b then 1 else 0)) (each r here) ∙ zero_more base in
    ap (λ (x : ℕ). fold (λ (a : ℕ) (x : Role). a + (if is_clock_pin x then 1 else 0)) x rs) e ∙ clock_free rs base (λ x h. each x (there h)) where
      zero_more : (x : ℕ) → x + 0 ≡ x
      zero_more x = omega arith

module _ (tracks all : Bool) (n : InMemory) (l : Library) (limit : ℕ) (r : InMemory) (table : List ModelPins) (passed : HasPassed tracks l) (is_n : IsNetlist n) (is_r : IsNetlist r)
    (of_cells : IsOfCells n l) (tied : IsTied n) (of : IsTableOf l all table) (fits : Fits n table) (passes : Passes table n) (buffered : IsBuffered n l limit r) where
  abbrev cell : Cell
  cell = buffered.repeater.cell

  abbrev last : Wired
  last = buffered.wired

  abbrev before : ℕ
  before = all_clocks (roles table n)

  sound_crowded : (class : ℕ) → limit < length (sinks l (wired_of n) class) → IsSound table before last
  sound_crowded class large =
      let t = some_of limit (sinks l (wired_of n) class) large in
      let x = sink_at l (wired_of n) class t.0 t.1 in
      let rep = repeats tracks l passed buffered.repeater (buffered.chosen (class, large)) in
      let b = gate_cell l cell buffered.repeater.gates rep in
      let row = row_of tracks all n l table passed is_n of_cells of fits passes cell.name cell b.found b.usable in
      let start : Limits l table before (wired_of n) = record {
        sane = sane_n tracks all n l table passed is_n of_cells of fits passes tied x.owner x.listed;
        loops = loops_n tracks all n l table passed is_n of_cells of fits passes;
      } in
      let end = limited_passes l table before limit buffered.repeater rep row buffered.names (wired_of n) last buffered.limited start
      (good_n tracks all n l table passed is_n of_cells of fits passes) (new_names tracks n l limit r passed is_n is_r of_cells buffered) in
      record { good = end.sane.good; loops = end.loops }

  sound_last : IsSound table before last
  sound_last = by (whether l limit buffered.repeater buffered.names (wired_of n) last buffered.limited) where
    by : Whether l limit (wired_of n) last → IsSound table before last
    by (as_it_was e) = subst (λ (k : Wired). IsSound table before k) (sym e) (record {
      good = good_all tracks all n l table passed is_n of_cells of fits passes;
      loops = loops_n tracks all n l table passed is_n of_cells of fits passes;
    })
    by (crowded class large) = sound_crowded class large

  -- ---- it fits the table

  of_cells_r : IsOfCells r l
  of_cells_r = still_of_cells tracks n l limit r passed is_n is_r of_cells buffered

  fits_r : Fits r table
  fits_r = record {
    table_is = fits.table_is;
    listed = All-from (λ (i : Instance). IsThere (map (λ m. m.model) table) i.model) r.instances (λ i h.
        let c = of_cells_r.found i (in_place i r.instances h) in (model_found (IsListed all) l.cells table c.0 i.model of c.1 (inr c.2)).known);
    pins = All-from (λ (i : Instance). i.pins ≡ map (λ p. p.name) (pins_named table i.model)) r.instances (λ i h.
        let c = of_cells_r.found i (in_place i r.instances h) in
        c.3 ∙ sym (pin_names c.0.function (all_ports c.0) (all_ports c.0) (pins_named table i.model)
        (row_of tracks all n l table passed is_n of_cells of fits passes i.model c.0 c.1 c.2)));
  }

  -- ---- it has the clock pins of the other

  roles_r : roles table r ≡ roles table n ++ pin_roles table (map (gate_named cell) buffered.names)
  roles_r =
      ap (λ (ps : List Port). map port_role ps ++ pin_roles table r.instances) (ports_same tracks n l limit r passed is_n is_r of_cells buffered)
      ∙ ap (λ (is : List Instance). map port_role n.ports ++ pin_roles table is) (all_instances tracks n l limit r passed is_n is_r of_cells buffered)
      ∙ ap (λ (rs : List Role). map port_role n.ports ++ rs) (flat_map-append (λ (i : Instance). map pin_role (pins_named table i.model)) n.instances (map (gate_named cell) buffered.names))
      ∙ sym (append_assoc (map port_role n.ports) (pin_roles table n.instances) (pin_roles table (map (gate_named cell) buffered.names)))

  no_clock : (x : Role) → In x (pin_roles table (map (gate_named cell) buffered.names)) → is_clock_pin x ≡ false
  no_clock x h =
      let i = flat_in (λ (y : Instance). map pin_role (pins_named table y.model)) x (map (gate_named cell) buffered.names) h in
      let g = In-map_back (gate_named cell) i.0 buffered.names i.1 in
      let q_in : In x (map pin_role (pins_named table cell.name)) = subst (λ (y : Instance). In x (map pin_role (pins_named table y.model))) (sym g.2) i.2 in
      let q = In-map_back pin_role x (pins_named table cell.name) q_in in
      by (how tracks n l limit r passed is_n is_r of_cells buffered) g.0 g.1 q.0 q.1 q.2 where
        not_clock : (b : IsGateCell l cell) (q : ModelPin) → GatePin l cell b q → pin_role q ≡ x → is_clock_pin x ≡ false
        not_clock b q (on_supply e k) f = ap is_clock_pin (sym f ∙ k)
        not_clock b q (reads e k) f = ap is_clock_pin (sym f ∙ k)
        not_clock b q (drives e k) f = ap is_clock_pin (sym f ∙ k)

        by : WasLimited l buffered.repeater buffered.names (wired_of n) buffered.wired → (name : List ℕ) → In name buffered.names → (q : ModelPin) → In q (pins_named table cell.name) → pin_role q ≡ x → is_clock_pin x ≡ false
        by (unchanged none alike) name name_in q q_in f = absurd (nothing (subst (λ (ns : List (List ℕ)). In name ns) none name_in)) where
          nothing : In name [] → ⊥
          nothing k = elim k [ ]
        by (by_gates rep) name name_in q q_in f =
            let b = gate_cell l cell buffered.repeater.gates rep in
            not_clock b q (gate_pin l table cell b (row_of tracks all n l table passed is_n of_cells of fits passes cell.name cell b.found b.usable) q q_in) f

  clocks_same : all_clocks (roles table r) ≡ before
  clocks_same =
      ap all_clocks roles_r
      ∙ fold-append (λ (a : ℕ) (x : Role). a + (if is_clock_pin x then 1 else 0)) 0 (roles table n) (pin_roles table (map (gate_named cell) buffered.names))
      ∙ clock_free (pin_roles table (map (gate_named cell) buffered.names)) before no_clock

  -- ---- its classes

  class_r : (t : Terminal) → IsThere (terminals r) t → HasClass r t ((wired_of r).class t)
  class_r t h = class_here table r is_r fits_r t h

  marks_r : marks table r.ports r.instances ≡ all_marks table last
  marks_r = ap (λ (ps : List Port). marks table ps r.instances) buffered.is.ports ∙ ap (λ (is : List Instance). marks table last.ports is) buffered.is.instances

  test_same : (a b : Terminal) → IsThere (terminals r) a → IsThere (terminals r) b → (c : ℕ) → HasClass r b c → nat_eq ((wired_of r).class a) c ≡ nat_eq (last.class a) (last.class b)
  test_same a b a_in b_in c h = by (nat_eq ((wired_of r).class a) c) refl (nat_eq (last.class a) (last.class b)) refl where
    both : ((wired_of r).class a ≡ c → last.class a ≡ last.class b) × (last.class a ≡ last.class b → (wired_of r).class a ≡ c)
    both = buffered.is.classes a b ((wired_of r).class a) c (class_r a a_in) h

    by : (x : Bool) → nat_eq ((wired_of r).class a) c ≡ x → (y : Bool) → nat_eq (last.class a) (last.class b) ≡ y → x ≡ y
    by true e true f = refl
    by false e false f = refl
    by true e false f =
        let yes = eq-eqb (last.class a) (last.class b) (both.0 (eqb-true ((wired_of r).class a) c e)) in let never : true ≡ false = sym yes ∙ f in absurd (cc never)
    by false e true f =
        let yes = eq-eqb ((wired_of r).class a) c (both.1 (eqb-true (last.class a) (last.class b) f)) in let never : true ≡ false = sym yes ∙ e in absurd (cc never)

  classes_r : HasSoundClasses table r
  classes_r f c low =
      let p = turn_reached 0 r.count c r.classes is_r.turns (omega arith) low in
      let inside = slice_get_within r.classes p.0 c p.1 in
      let many = is_r.each in
      let t = at_place (terminals r) p.0 (omega (arith, inside, many)) in
      let same : tally table r c ≡ tally_at table last (last.class t.0) =
      tally_is table r is_r fits_r c
      ∙ told_alike (wired_of r).class last.class (marks table r.ports r.instances) c (last.class t.0)
      (λ m h. test_same m.terminal t.0 (mark_there table r is_r fits_r m h) (p.0, t.1) c (p.0, t.1, p.1))
      ∙ ap (λ (ms : List Mark). tally_in last.class ms (last.class t.0)) marks_r in
      let good : IsGood (all_clocks (roles table r)) (tally table r c) =
      subst (λ (x : ℕ). IsGood x (tally table r c)) (sym clocks_same) (subst (λ (x : Tally). IsGood before x) (sym same) (sound_last.good (last.class t.0))) in
      no_fault (all_clocks (roles table r)) (tally table r c) good f

  -- ---- its rings

  edge_of : (a b : Terminal) → DependsOn table r a b → Edge table last (last.class a) (last.class b)
  edge_of a b d = record {
    owner = d.owner;
    listed = subst (λ (is : List Instance). In d.owner is) buffered.is.instances (in_from_place r.instances d.is_pin.listed.0 d.owner d.is_pin.listed.1);
    arc = record {
      output = d.output;
      known = in_from_place (pins_named table d.owner.model) d.is_pin.known.0 d.output d.is_pin.known.1;
      gives = d.gives;
      place = d.place;
      depends = in_from_place d.output.depends_on d.depends.0 d.place d.depends.1;
      input = d.input;
      stands = d.there;
      takes = d.takes;
    };
    at = ap last.class (sym d.is_pin.is);
    reads = (buffered.is.classes (pin_of d.owner.name d.input.name) b d.class d.class d.reads d.joined).0 refl;
  }

  rings_r : (ring : List Terminal) → IsRing table r ring → ⊥
  rings_r [] g = let some = g.some in absurd (omega (arith, some))
  rings_r (a ∷ rest) g =
      sound_last.loops (last.class a) (along (Edge table last) last.class a rest (last.class a) (λ k x y p q. edge_of x y (g.next k x y p q)) (λ x p.
      let e : length rest ≡ suc (length rest) - 1 = omega arith in
      edge_of x a (g.close x a (subst (λ (k : ℕ). Stands (a ∷ rest) k x) e p) refl)))

  pub both_pass : Fits r table × Passes table r
  both_pass = (fits_r, record { classes = classes_r; rings = rings_r })

pub buffered_passes : BufferedPasses
buffered_passes tracks all n l limit r table passed is_n is_r of_cells tied of fits passes buffered =
    both_pass tracks all n l limit r table passed is_n is_r of_cells tied of fits passes buffered
