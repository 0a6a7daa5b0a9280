-- A limited netlist that would do without its buffers has none.
use Rattle.std.proofs.Common.{◌≡◌, ◌≢◌, ◌⊎◌, inl, inr, ℕ, ◌<◌, Bool, true, false, List, [], ◌++◌, length, map, Some, refl, sym, ◌∙◌, ap, subst, arith, nat_eq}
use Rattle.std.proofs.lemmas.Option.{same_Some}
use Rattle.vlsi_base.specs.declared.name.Name.{Name}
use Rattle.vlsi_base.specs.declared.name.Terminal.{Terminal}
use Rattle.vlsi_base.specs.Names.{vdd, vss}
use Rattle.vlsi_base.specs.Member.{In}
use Rattle.machine_core.specs.Machine.{names_of}
use Rattle.machine_core.proofs.Names.{same_name-itself}
use Rattle.machine_core.specs.Named.{is_same_name}
use Rattle.cell_model.specs.Cell.{Function, Cell, pin_ports}
use Rattle.cell_model.specs.Library.{Library, cell_of}
use Rattle.cell_model.proofs.Members.{In-split, In-left, In-map, In-map_back}
use Rattle.cell_pins.proofs.Ports.{in_filter}
use Rattle.cell_checks.specs.Checked.{IsChecked as HasPassed}
use Rattle.net_core.specs.Places.{IsThere}
use Rattle.net_core.specs.Netlist.{Instance, Netlist as InMemory, IsNetlist, port, terminals}
use Rattle.net_meaning.specs.Netlist.{Member, AbstractNetlist, pin_of, a_pin}
use Rattle.net_meaning.specs.Well.{Has, IsClockPin, a_clock_pin, buffer_instance}
use Rattle.net_theory.proofs.Basics.{In-names}
use Rattle.net_right.specs.View.{member_of, IsSeenAs}
use Rattle.net_right.proofs.Lists.{in_place}
use Rattle.net_right.proofs.Terminals.{seen_instances, IsCelled, terminal_there}
use Rattle.net_right.proofs.Seen.{seen_class}
use Rattle.loon_loads.specs.Sinks.{is_clock_of}
use Rattle.loon_fanout.specs.Sinks.{Wired, sinks, wired_of}
use Rattle.loon_wiring.specs.Repeaters.{Repeater}
use Rattle.loon_fanout.specs.Limited.{IsLimited, within, round, IsNetlistOf, IsBuffered, IsOfCells}
use Rattle.loon_fanout.specs.Laws.{as_netlist, gate_named}
use Rattle.net_meaning.specs.Buffers.{AreOne, alike, tied, turned, through}
use Rattle.loon_fanout.specs.Nets.{IsStaying, staying, IsNet, FitsWithoutBuffers, HasNoBuffer, BuffersAreNeeded}
use Rattle.loon_fanout.proofs.Sinking.{all_sinks, sink_there}
use Rattle.loon_fanout.proofs.Splitting.{sink_at}
use Rattle.loon_fanout.proofs.RightMove.{IsSink}
use Rattle.loon_fanout.proofs.RightRounds.{sink_of, some_of}
use Rattle.loon_fanout.proofs.OneClass.{AreGood, good_instances, one_instance, sinks_differ, RoundFollows, limited_follows}
use Rattle.loon_fanout.proofs.Merged.{merged}
use Rattle.loon_fanout.proofs.JoinsNothing.{given_one}
use Rattle.loon_fanout.proofs.Supplies.{long_net, sink_reads, supply_apart}
use Rattle.loon_fanout.proofs.RightStay.{repeats, celled_r, all_instances, new_names}

-- ---- classes of a netlist in memory

module _ (l : Library) (r : InMemory) (is : IsNetlist r) (celled : (i : Instance) → IsThere r.instances i → IsCelled l i) (w : Wired) (of : IsNetlistOf r w) (good : AreGood l w.instances)
    (k : AbstractNetlist) (seen : IsSeenAs r k) where
  same_class : (t u : Terminal) → IsThere (terminals r) t → IsThere (terminals r) u → w.class t ≡ w.class u → k.class t ≡ k.class u
  same_class t u t_in u_in e = (of.classes t u (k.class t) (k.class u) (seen_class r k is seen t t_in) (seen_class r k is seen u u_in)).1 e

  instances_same : k.instances ≡ map member_of w.instances
  instances_same = seen_instances r k seen ∙ ap (map member_of) of.instances

  pub pin_in : (i : Member) (c : Cell) → Has (as_netlist w) l i c → (pin : Name) → In pin (names_of (pin_ports c)) → IsThere (terminals r) (pin_of i.name pin)
  pin_in i c has pin h =
      let m = In-map_back member_of i w.instances has.listed in
      let usable = good.usable m.0 c m.1 (subst (λ (x : Member). cell_of l x.model ≡ Some c) (sym m.2) has.found) in
      let listed = subst (λ (all : List Member). In i all) (sym instances_same) has.listed in
      terminal_there r l k seen celled (pin_of i.name pin) (a_pin i c listed has.found ((usable.connectors pin).1 (inr (inr h))))

  pub ones : (t u : Terminal) → IsThere (terminals r) t → IsThere (terminals r) u → AreOne (as_netlist w) l (w.class t) (w.class u) → AreOne k l (k.class t) (k.class u)
  ones = merged (as_netlist w) l (IsThere (terminals r)) (λ t u. AreOne k l (k.class t) (k.class u)) (record {
    in_class = λ t u t_in u_in e. subst (λ (z : ℕ). AreOne k l (k.class t) z) (same_class t u t_in u_in e) alike;
    back = λ t u h. turned h;
    chain = λ t u v h g. through h g;
    pins = pin_in;
    over = λ i c j x y has named x_in y_in.
        tied i c j x y (record { listed = subst (λ (all : List Member). In i all) (sym instances_same) has.listed; found = has.found }) named x_in y_in;
  })

-- ---- the law

-- nothing was put in, or a class had too many sinks
was_crowded : (l : Library) (limit : ℕ) (b : Repeater) (names : List (List ℕ)) (n k : Wired) → IsLimited l limit b names n k → (names ≡ []) ⊎ ((class : ℕ) × (limit < length (sinks l n class)))
was_crowded l limit b names n k (within few) = inl refl
was_crowded l limit b names n k (round class rows large earlier groups many rest) = inr (class, large)

module _ (tracks : Bool) (n : InMemory) (l : Library) (limit : ℕ) (r : InMemory) (k : AbstractNetlist) (passed : HasPassed tracks l) (is_n : IsNetlist n) (is_r : IsNetlist r) (of_cells : IsOfCells n l)
    (no_b : (i : Instance) (j : ℕ) → IsThere n.instances i → i.name ≢ buffer_instance j) (buffered : IsBuffered n l limit r) (seen : IsSeenAs r k) (fits : FitsWithoutBuffers k l limit) where
  abbrev w : Wired
  w = buffered.wired

  instances_r : r.instances ≡ n.instances ++ map (gate_named buffered.repeater.cell) buffered.names
  instances_r = all_instances tracks n l limit r passed is_n is_r of_cells buffered

  good_n : AreGood l n.instances
  good_n = good_instances l n is_n of_cells

  in_k : (i : Instance) → In i n.instances → In (member_of i) k.instances
  in_k i h =
      subst (λ (all : List Member). In (member_of i) all) (sym (seen_instances r k seen))
      (In-map member_of i r.instances (subst (λ (all : List Instance). In i all) (sym instances_r) (In-left i n.instances (map (gate_named buffered.repeater.cell) buffered.names) h)))

  -- where nothing was put in, there is no buffer
  unchanged : buffered.names ≡ [] → HasNoBuffer k
  unchanged none i j h e =
      let m = In-map_back member_of i r.instances (subst (λ (all : List Member). In i all) (seen_instances r k seen) h) in
      let listed = subst (λ (all : List Instance). In m.0 all) (instances_r ∙ ap (λ (ns : List (List ℕ)). n.instances ++ map (gate_named buffered.repeater.cell) ns) none) m.1 in
      elim (In-split m.0 n.instances [] listed) [
        | inl old ↦ no_b m.0 j (in_place m.0 n.instances old) (ap (λ (x : Member). x.name) m.2 ∙ e)
        | inr new ↦ nothing m.0 new
      ] where
        nothing : (x : Instance) → In x [] → ⊥
        nothing x g = elim g [ ]

  module _ (class : ℕ) (large : limit < length (sinks l (wired_of n) class)) where
    limited : RoundFollows l buffered.repeater.cell [] (wired_of n) w
    limited =
        limited_follows l limit buffered.repeater (repeats tracks l passed buffered.repeater (buffered.chosen (class, large))) buffered.names (wired_of n) w buffered.limited good_n
        (new_names tracks n l limit r passed is_n is_r of_cells buffered)

    celled : (i : Instance) → IsThere r.instances i → IsCelled l i
    celled i h = celled_r tracks n l limit r passed is_n is_r of_cells buffered i h

    sunk : (t : Terminal) → In t (sinks l (wired_of n) class) → IsSink l (wired_of n) t
    sunk t h = sink_of l (wired_of n) class t (sink_at l (wired_of n) class t h)

    there_r : (t : Terminal) → IsSink l (wired_of n) t → IsThere (terminals r) t
    there_r t h =
        let s = limited.follows.kept t h in
        subst (λ (x : Terminal). IsThere (terminals r) x) (sym s.is)
        (pin_in l r is_r celled w buffered.is limited.good k seen (member_of s.owner) s.cell (record { listed = In-map member_of s.owner w.instances s.listed; found = s.found }) s.pin (In-names _ (pin_ports s.cell) s.pin s.input))

    no_clock : (t : Terminal) (s : IsSink l w t) (y : Terminal) → y ≡ pin_of s.owner.name s.pin → IsClockPin k l y → ⊥
    no_clock t s y e (a_clock_pin i c d ck has function) =
        let names : Some i.name ≡ Some s.owner.name = ap (λ (x : Terminal). x.instance) e in
        let name : i.name ≡ s.owner.name = cc names in
        let pin : ck ≡ s.pin = ap (λ (x : Terminal). x.pin) e in
        let m = In-map_back member_of i w.instances (subst (λ (all : List Member). In i all) (seen_instances r k seen ∙ ap (map member_of) buffered.is.instances) has.listed) in
        let same = one_instance w.instances limited.good.names m.0 s.owner m.1 s.listed (ap (λ (x : Member). x.name) m.2 ∙ name) in
        let found : cell_of l m.0.model ≡ Some c = subst (λ (x : Member). cell_of l x.model ≡ Some c) (sym m.2) has.found in
        let again : cell_of l m.0.model ≡ Some s.cell = subst (λ (x : Instance). cell_of l x.model ≡ Some s.cell) (sym same) s.found in
        let cells : s.cell ≡ c = same_Some s.cell c (sym again ∙ found) in
        let off : is_same_name ck s.pin ≡ false = subst (λ (u : Function). is_clock_of u s.pin ≡ false) (ap (λ (x : Cell). x.function) cells ∙ function) s.no_clock in
        let no : is_same_name ck ck ≡ false = subst (λ (x : Name). is_same_name ck x ≡ false) (sym pin) off in
        let yes = same_name-itself ck in
        let wrong : true ≡ false = sym yes ∙ no in absurd (cc wrong)

    stays : (t : Terminal) → IsSink l (wired_of n) t → IsStaying k l t
    stays t s =
        let now = limited.follows.kept t s in
        subst (λ (x : Terminal). IsStaying k l x) (sym s.is)
        (staying (member_of s.owner) s.cell (record { listed = in_k s.owner s.listed; found = s.found }) s.input (λ j. no_b s.owner j (in_place s.owner n.instances s.listed))
        (no_clock t now (pin_of s.owner.name s.pin) (sym s.is ∙ now.is)))

    class_at : (t : Terminal) → In t (sinks l (wired_of n) class) → (wired_of n).class t ≡ class
    class_at t h = (sink_at l (wired_of n) class t h).class

    there_n : (t : Terminal) → In t (sinks l (wired_of n) class) → IsThere (terminals n) t
    there_n t h =
        let i = in_filter (λ (u : Terminal). nat_eq ((wired_of n).class u) class) (all_sinks l (wired_of n)) t (sink_reads l (wired_of n) class t h) in
        in_place t (terminals n) (sink_there l (wired_of n) t i.0)

    supply_there : (supply : Name) → (supply ≡ vdd) ⊎ (supply ≡ vss) → IsThere (terminals n) (port supply)
    supply_there supply (inl high) = subst (λ (s : Name). IsThere (terminals n) (port s)) (sym high) of_cells.on_vdd
    supply_there supply (inr low) = subst (λ (s : Name). IsThere (terminals n) (port s)) (sym low) of_cells.on_vss

    -- the class isn't made one with that of a supply
    is_net : (t : Terminal) → In t (sinks l (wired_of n) class) → IsNet k l (k.class t)
    is_net t h supply which one = supply_apart (wired_of n) class (long_net l (wired_of n) class limit large) supply which
        (sym (given_one tracks n l limit r passed is_n is_r of_cells no_b buffered k seen t (port supply) (there_n t h) (supply_there supply which) one) ∙ class_at t h)

    too_many : ⊥
    too_many =
        let ts = sinks l (wired_of n) class in
        let a = some_of limit ts large in
        let few = fits (k.class a.0) ts (is_net a.0 a.1) (sinks_differ l (wired_of n) good_n.names good_n.pins class) (λ t h. (
          stays t (sunk t h),
          ones l r is_r celled w buffered.is limited.good k seen a.0 t (there_r a.0 (sunk a.0 a.1)) (there_r t (sunk t h))
              (through (turned (limited.follows.moves a.0 (sunk a.0 a.1)))
              (subst (λ (x : ℕ). AreOne (as_netlist w) l x (w.class t)) (class_at t h ∙ sym (class_at a.0 a.1)) (limited.follows.moves t (sunk t h)))),
        )) in
        absurd (omega (arith, few, large))

  needed : HasNoBuffer k
  needed = elim (was_crowded l limit buffered.repeater buffered.names (wired_of n) w buffered.limited) [
    | inl none ↦ unchanged none
    | inr crowd ↦ absurd (too_many crowd.0 crowd.1)
  ]

pub buffers_are_needed : BuffersAreNeeded
buffers_are_needed tracks n l limit r k passed is_n is_r of_cells no_b buffered seen fits = needed tracks n l limit r k passed is_n is_r of_cells no_b buffered seen fits
