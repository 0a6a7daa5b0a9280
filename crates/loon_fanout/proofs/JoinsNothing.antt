-- A limited netlist joins nothing that was apart, once its buffers are taken out.
use Rattle.std.proofs.Common.{◌≡◌, ◌≢◌, inl, inr, ℕ, ◌<◌, Bool, true, false, List, [], ◌∷◌, ◌++◌, map, Some, refl, sym, ◌∙◌, ap, subst, arith, if◌then◌else◌}
use Rattle.std.proofs.lemmas.Grind.{flat_map-append}
use Rattle.std.proofs.lemmas.Option.{same_Some}
use Rattle.std.specs.List.{flat_map}
use Rattle.vlsi_base.specs.declared.name.Name.{Name}
use Rattle.vlsi_base.specs.declared.name.Port.{Port}
use Rattle.vlsi_base.specs.declared.name.Terminal.{Terminal}
use Rattle.vlsi_base.specs.Names.{vdd}
use Rattle.vlsi_base.specs.Member.{In, here, there}
use Rattle.machine_core.specs.Machine.{names_of}
use Rattle.cell_model.specs.Cell.{Cell, pin_ports}
use Rattle.cell_model.specs.Library.{Library, cell_of}
use Rattle.cell_model.specs.Connectors.{PinsAreConnectors}
use Rattle.cell_model.proofs.Members.{In-split, In-left, In-right, In-map_back, All-In}
use Rattle.cell_checks.specs.Checked.{IsChecked as HasPassed}
use Rattle.cell_pins.proofs.Sound.{member_at as in_from_place}
use Rattle.net_core.specs.Places.{IsThere}
use Rattle.net_core.specs.Netlist.{Instance, Netlist as InMemory, IsNetlist, port, pins_of, terminals_of, terminals}
use Rattle.net_core.proofs.Finishing.{netlist_terminals_once}
use Rattle.net_core.proofs.Namings.{turn_below}
use Rattle.net_core.proofs.Rings.{class_below}
use Rattle.net_meaning.specs.Netlist.{Member, AbstractNetlist, pin_of, a_pin}
use Rattle.net_meaning.specs.Well.{Has, buffer_instance}
use Rattle.net_meaning.specs.Buffers.{AreOne}
use Rattle.net_right.specs.View.{member_of, IsSeenAs}
use Rattle.net_right.proofs.Lists.{in_place}
use Rattle.net_right.proofs.Places.{has_class}
use Rattle.net_right.proofs.Terminals.{seen_instances, IsCelled, terminal_there}
use Rattle.net_right.proofs.Seen.{seen_class}
use Rattle.loon_fanout.specs.Sinks.{Wired, is_same_terminal, class_among, wired_of}
use Rattle.loon_fanout.specs.Limited.{IsBuffered, IsOfCells}
use Rattle.loon_fanout.specs.Laws.{as_netlist, gate_named}
use Rattle.loon_fanout.specs.Nets.{BufferedJoinsNothing}
use Rattle.loon_fanout.proofs.Terminals.{class_is}
use Rattle.loon_fanout.proofs.Sinking.{not_new}
use Rattle.loon_fanout.proofs.OneClass.{good_instances}
use Rattle.loon_fanout.proofs.Merged.{merged}
use Rattle.loon_fanout.proofs.Origins.{HasOrigins, limited_origins}
use Rattle.loon_fanout.proofs.RightStay.{WasLimited, unchanged, by_gates, how, celled_r, all_instances, ports_same, new_names}

-- a number that stands beside a terminal, or 0
among_below : (count : ℕ) → 0 < count → (us : List Terminal) (ks : List ℕ) → ((k : ℕ) → In k ks → k < count) → (t : Terminal) → class_among us ks t < count
among_below count some [] ks low t = some
among_below count some (u ∷ us) [] low t = some
among_below count some (u ∷ us) (k ∷ ks) low t = by (is_same_terminal u t) (among_below count some us ks (λ j i. low j (there i)) t) where
  by : (b : Bool) → class_among us ks t < count → (if b then k else class_among us ks t) < count
  by true later = low k here
  by false later = later

terminals_still : (ps : List Port) (is more : List Instance) (t : Terminal) → In t (terminals_of ps is) → In t (terminals_of ps (is ++ more))
terminals_still ps is more t h =
    subst (λ (ts : List Terminal). In t (map (λ p. port p.name) ps ++ ts)) (sym (flat_map-append pins_of is more))
    (elim (In-split t (map (λ (p : Port). port p.name) ps) (flat_map pins_of is) h) [
      | inl a ↦ In-left t (map (λ (p : Port). port p.name) ps) (flat_map pins_of is ++ flat_map pins_of more) a
      | inr b ↦
          In-right t (map (λ (p : Port). port p.name) ps) (flat_map pins_of is ++ flat_map pins_of more) (In-left t (flat_map pins_of is) (flat_map pins_of more) b)
    ])

module _ (tracks : Bool) (n : InMemory) (l : Library) (limit : ℕ) (r : InMemory) (passed : HasPassed tracks l) (is_n : IsNetlist n) (is_r : IsNetlist r) (of_cells : IsOfCells n l)
    (no_b : (i : Instance) (j : ℕ) → IsThere n.instances i → i.name ≢ buffer_instance j) (buffered : IsBuffered n l limit r) where
  abbrev w : Wired
  w = buffered.wired

  abbrev given : Wired
  given = wired_of n

  some_class : 0 < n.count
  some_class =
      let c = has_class n is_n (port vdd) of_cells.on_vdd in
      let low = class_below n is_n (port vdd) c.0 c.1 in
      omega (arith, low)

  -- the given netlist has no instance of a buffer's name
  start : HasOrigins l given given
  start = record {
    origin = λ a. a;
    below = λ t. among_below n.count some_class (terminals n) n.classes (λ k i. All-In (λ (j : ℕ). j < n.count) n.classes (turn_below 0 n.count n.classes is_n.turns) k i) t;
    each = λ t i. refl;
    ties = λ i c j x y has named x_in y_in.
        let m = In-map_back member_of i n.instances has.listed in
        absurd (no_b m.0 j (in_place m.0 n.instances m.1) (ap (λ (z : Member). z.name) m.2 ∙ named));
    foreign = λ t i name new.
        not_new given name t (λ listed. let m = In-map_back (λ (x : Instance). x.name) name n.instances listed in new m.0 m.1 m.2) i;
  }

  origins : HasOrigins l given w
  origins = by (how tracks n l limit r passed is_n is_r of_cells buffered) where
    by : WasLimited l buffered.repeater buffered.names given w → HasOrigins l given w
    by (unchanged none same) = subst (λ (x : Wired). HasOrigins l given x) (sym same) start
    by (by_gates repeats) =
        limited_origins l given limit buffered.repeater repeats buffered.names given w buffered.limited (good_instances l n is_n of_cells)
        (new_names tracks n l limit r passed is_n is_r of_cells buffered) start

  there_r : (t : Terminal) → IsThere (terminals n) t → IsThere (terminals r) t
  there_r t h =
      let ports = ports_same tracks n l limit r passed is_n is_r of_cells buffered in
      let instances = all_instances tracks n l limit r passed is_n is_r of_cells buffered in
      let still = terminals_still n.ports n.instances (map (gate_named buffered.repeater.cell) buffered.names) t (in_from_place (terminals n) h.0 t h.1) in
      in_place t (terminals r)
      (subst (λ (ps : List Port). In t (terminals_of ps r.instances)) (sym ports)
      (subst (λ (is : List Instance). In t (terminals_of n.ports is)) (sym instances) still))

  module _ (k : AbstractNetlist) (seen : IsSeenAs r k) where
    celled : (i : Instance) → IsThere r.instances i → IsCelled l i
    celled i h = celled_r tracks n l limit r passed is_n is_r of_cells buffered i h

    abbrev origin_of : Terminal → ℕ
    origin_of t = origins.origin (w.class t)

    same_origin : (t u : Terminal) → IsThere (terminals r) t → IsThere (terminals r) u → k.class t ≡ k.class u → origin_of t ≡ origin_of u
    same_origin t u t_in u_in e =
        ap origins.origin ((buffered.is.classes t u (k.class t) (k.class u) (seen_class r k is_r seen t t_in) (seen_class r k is_r seen u u_in)).0 e)

    has_w : (i : Member) (c : Cell) → Has k l i c → Has (as_netlist w) l i c
    has_w i c has = record {
      listed = subst (λ (all : List Member). In i all) (seen_instances r k seen ∙ ap (map member_of) buffered.is.instances) has.listed;
      found = has.found;
    }

    pin_there : (i : Member) (c : Cell) → Has k l i c → (pin : Name) → In pin (names_of (pin_ports c)) → IsThere (terminals r) (pin_of i.name pin)
    pin_there i c has pin h =
        let m = In-map_back member_of i r.instances (subst (λ (all : List Member). In i all) (seen_instances r k seen) has.listed) in
        let q = celled m.0 (in_place m.0 r.instances m.1) in
        let found : cell_of l m.0.model ≡ Some c = subst (λ (x : Member). cell_of l x.model ≡ Some c) (sym m.2) has.found in
        let connected : PinsAreConnectors c = subst (λ (x : Cell). PinsAreConnectors x) (same_Some q.cell c (sym q.found ∙ found)) q.connected in
        terminal_there r l k seen celled (pin_of i.name pin) (a_pin i c has.listed has.found ((connected pin).1 (inr (inr h))))

    one_origin : (t u : Terminal) → IsThere (terminals r) t → IsThere (terminals r) u → AreOne k l (k.class t) (k.class u) → origin_of t ≡ origin_of u
    one_origin = merged k l (IsThere (terminals r)) (λ t u. origin_of t ≡ origin_of u) (record {
      in_class = same_origin;
      back = λ t u e. sym e;
      chain = λ t u v e d. e ∙ d;
      pins = pin_there;
      over = λ i c j x y has named x_in y_in. origins.ties i c j x y (has_w i c has) named x_in y_in;
    })

    -- given terminals of classes that are made one were in one class
    pub given_one : (t u : Terminal) → IsThere (terminals n) t → IsThere (terminals n) u → AreOne k l (k.class t) (k.class u) → given.class t ≡ given.class u
    given_one t u t_in u_in h =
        sym (origins.each t (in_from_place (terminals n) t_in.0 t t_in.1))
        ∙ one_origin t u (there_r t t_in) (there_r u u_in) h
        ∙ origins.each u (in_from_place (terminals n) u_in.0 u u_in.1)

-- the class of a terminal in memory, and as it is seen
seen_given : (n : InMemory) (y : AbstractNetlist) → IsNetlist n → IsSeenAs n y → (t : Terminal) → IsThere (terminals n) t → y.class t ≡ (wired_of n).class t
seen_given n y is_n seen t h =
    let c = seen_class n y is_n seen t h in
    sym (class_is (terminals n) n.classes t c.0 (y.class t) (netlist_terminals_once n is_n) c.1 c.2)

pub buffered_joins_nothing : BufferedJoinsNothing
buffered_joins_nothing tracks n l limit r y k passed is_n is_r of_cells no_b buffered seen_n seen_r t u t_in u_in h =
    seen_given n y is_n seen_n t t_in
    ∙ given_one tracks n l limit r passed is_n is_r of_cells no_b buffered k seen_r t u t_in u_in h
    ∙ sym (seen_given n y is_n seen_n u u_in)
