-- A netlist that is right for a machine still is once its nets are limited.
use Rattle.std.proofs.Common.{◌≡◌, ◌≢◌, inl, inr, ℕ, suc, ◌<◌, Bool, List, [], ◌∷◌, ◌++◌, length, map, codes, Some, refl, sym, ◌∙◌, ap, subst, arith, append_assoc, if◌then◌else◌}
use Rattle.std.proofs.lemmas.Option.{slice_get_within}
use Rattle.vlsi_base.specs.declared.name.Name.{Name}
use Rattle.vlsi_base.specs.declared.name.Port.{Port}
use Rattle.vlsi_base.specs.declared.name.Terminal.{Terminal}
use Rattle.vlsi_base.specs.Names.{vdd, vss}
use Rattle.vlsi_base.specs.Member.{In, here, there}
use Rattle.machine_core.specs.Machine.{Machine}
use Rattle.machine_core.specs.Checked.{IsChecked}
use Rattle.vlsi_base.specs.declared.kind.Kind.TheVariants as kinds
use Rattle.cell_model.specs.Cell.{Function, gate, flip_flop, other, opaque, Cell, cell_inputs}
use Rattle.cell_model.specs.Library.{Library, cell_named, IsUsable}
use Rattle.cell_model.specs.Covering.{IsFunctionOf}
use Rattle.cell_model.specs.Usable.{IsFormed}
use Rattle.cell_model.proofs.Members.{In-split, In-right, In-map, In-map_back, All-In}
use Rattle.cell_model.proofs.Texts.{text_itself, text_differs}
use Rattle.cell_checks.specs.Checked.{IsChecked as HasPassed}
use Rattle.cell_pins.specs.Pins.{with_supply}
use Rattle.cell_pins.proofs.Sound.{member_at as in_from_place, Apart, apart_rest, apart_first}
use Rattle.net_core.specs.Places.{IsThere, NoneTwice}
use Rattle.net_core.specs.Netlist.{Instance, Netlist as InMemory, IsNetlist, terminals, HasClass}
use Rattle.net_core.proofs.Finishing.{netlist_terminals_once}
use Rattle.net_core.proofs.Namings.{turn_reached}
use Rattle.net_core.proofs.Rings.{at_place, class_below}
use Rattle.net_meaning.specs.Netlist.{AbstractNetlist, IsTerminal, a_port, a_pin}
use Rattle.net_meaning.specs.Laws.{AreSame}
use Rattle.net_meaning.specs.Well.{buffer_instance}
use Rattle.net_theory.specs.Laws.{IsCounted}
use Rattle.net_theory.proofs.Elsewhere.{moved_source, moved as shown_elsewhere}
use Rattle.net_right.specs.View.{member_of, netlist_by, IsSeenAs}
use Rattle.net_right.specs.Right.{IsRightNetlist}
use Rattle.net_right.proofs.Lists.{in_place}
use Rattle.net_right.proofs.Places.{has_class}
use Rattle.net_right.proofs.Terminals.{seen_ports, seen_instances, IsCelled, terminal_there, there_terminal}
use Rattle.net_right.proofs.Seen.{seen_class}
use Rattle.text_names.specs.Free.{free_numbers, free_texts}
use Rattle.loon_fanout.specs.Sinks.{Wired, sinks, class_among, wired_of}
use Rattle.loon_wiring.specs.Repeaters.{Repeater, GivesItsInput, IsRepeater, buffer, inverters}
use Rattle.loon_fanout.specs.Limited.{IsLimited, within, round, IsNetlistOf, IsBuffered, IsOfCells}
use Rattle.loon_fanout.specs.Laws.{as_netlist, sourced, gate_named, BufferedStaysRight}
use Rattle.loon_fanout.proofs.Terminals.{class_is}
use Rattle.loon_fanout.proofs.Kept.{limited_stays_beside}
use Rattle.loon_fanout.proofs.RightStates.{State, IsGateCell}
use Rattle.loon_fanout.proofs.RightRounds.{AreNew, Repeats, once, twice, limited_state}

-- ---- the repeater

cell_found : (cells : List Cell) → Apart cells → (c : Cell) → In c cells → cell_named cells c.name ≡ Some c
cell_found (d ∷ cells) apart c here = ap (λ (b : Bool). if b then Some c else cell_named cells c.name) (text_itself c.name)
cell_found (d ∷ cells) apart c (there h) =
    ap (λ (b : Bool). if b then Some d else cell_named cells c.name) (text_differs d.name c.name (apart_first d c cells apart h))
    ∙ cell_found cells (apart_rest d cells apart) c h
cell_found [] apart c h = elim h [ ]

module _ (tracks : Bool) (l : Library) (passed : HasPassed tracks l) where
  signals_of : (c : Cell) → In c l.cells → IsFormed c
  signals_of c h = All-In IsFormed l.cells passed.formed c h

  buffer_repeats : (c : Cell) → In c l.cells → IsUsable c → (u : Function) → c.function ≡ u → GivesItsInput u (length (cell_inputs c)) → Repeats l c 1
  buffer_repeats c listed usable (gate e) is gives =
      let b : IsGateCell l c = record { found = cell_found l.cells passed.names c listed; usable = usable; expr = e; is_gate = is; one = gives.0; signals = (signals_of c listed).signals } in
      once b gives.1
  buffer_repeats c listed usable (flip_flop d k) is gives = absurd gives
  buffer_repeats c listed usable (other machine) is gives = absurd gives
  buffer_repeats c listed usable opaque is gives = absurd gives

  inverter_repeats : (c : Cell) → In c l.cells → IsUsable c → (u : Function) → c.function ≡ u → IsFunctionOf u (length (cell_inputs c)) kinds.Inv → Repeats l c 2
  inverter_repeats c listed usable (gate e) is gives =
      let b : IsGateCell l c = record { found = cell_found l.cells passed.names c listed; usable = usable; expr = e; is_gate = is; one = gives.0; signals = (signals_of c listed).signals } in
      twice b gives.1
  inverter_repeats c listed usable (flip_flop d k) is gives = absurd (cc gives)
  inverter_repeats c listed usable (other machine) is gives = absurd gives
  inverter_repeats c listed usable opaque is gives = absurd gives

  pub repeats : (b : Repeater) → IsRepeater l.cells b → Repeats l b.cell b.gates
  repeats b (buffer {c = c} first) = buffer_repeats c (in_from_place l.cells first.place c first.stands) first.holds.0 c.function refl first.holds.1
  repeats b (inverters {c = c} none first) = inverter_repeats c (in_from_place l.cells first.place c first.stands) first.holds.0 c.function refl first.holds.1

-- ---- names

-- a name stands before no other one that is the same
none_same : (is : List Instance) (y : Instance) (rest : List Instance) → NoneTwice (map (λ i. i.name) (is ++ y ∷ rest)) → (i : Instance) → In i is → i.name ≢ y.name
none_same [] y rest once_only i h = elim h [ ]
none_same (x ∷ is) y rest once_only i here = λ same.
    let place = in_place y.name (map (λ (z : Instance). z.name) (is ++ y ∷ rest)) (In-map (λ (z : Instance). z.name) y (is ++ y ∷ rest) (In-right y is (y ∷ rest) here)) in
    let wrong : 0 ≡ suc place.0 = once_only 0 (suc place.0) y.name (ap (λ (n : List ℕ). Some n) same) place.1 in
    absurd (omega (arith, wrong))
none_same (x ∷ is) y rest once_only i (there h) = none_same is y rest later i h where
  later : NoneTwice (map (λ z. z.name) (is ++ y ∷ rest))
  later a b z p q = let e : suc a ≡ suc b = once_only (suc a) (suc b) z p q in omega (arith, e)

are_new : (c : Cell) (names : List (List ℕ)) (is : List Instance) → ((name : List ℕ) → In name names → (j : ℕ) × (name ≡ buffer_instance j))
    → NoneTwice (map (λ i. i.name) (is ++ map (gate_named c) names)) → AreNew c names is
are_new c [] is each once_only = tt
are_new c (name ∷ names) is each once_only = (
  each name here,
  none_same is (gate_named c name) (map (gate_named c) names) once_only,
  are_new c names (is ++ gate_named c name ∷ []) (λ x h. each x (there h))
      (subst (λ (all : List Instance). NoneTwice (map (λ i. i.name) all)) (sym (append_assoc is (gate_named c name ∷ []) (map (gate_named c) names))) once_only),
)

buffer_names : (taken : List (List ℕ)) (many : ℕ) (names : List (List ℕ)) → names ≡ free_texts (codes "b") taken many → (name : List ℕ) → In name names → (j : ℕ) × (name ≡ buffer_instance j)
buffer_names taken many names is name h =
    let r = In-map_back buffer_instance name (free_numbers (codes "b") taken many) (subst (λ (all : List (List ℕ)). In name all) is h) in
    (r.0, sym r.2)

-- ---- netlists in memory

module _ (n : InMemory) (l : Library) (is : IsNetlist n) (celled : (i : Instance) → IsThere n.instances i → IsCelled l i) where
  abbrev pub seen_netlist : AbstractNetlist
  seen_netlist = netlist_by (class_among (terminals n) n.classes) n

  pub is_seen : IsSeenAs n seen_netlist
  is_seen = record {
    is = refl;
    classes = record { each = λ t k h. class_is (terminals n) n.classes t h.0 k (netlist_terminals_once n is) h.1 h.2 };
  }

  pub counted : IsCounted l seen_netlist
  counted = record {
    numbered = λ t h.
        let c = seen_class n seen_netlist is is_seen t (terminal_there n l seen_netlist is_seen celled t h) in
        class_below n is t (seen_netlist.class t) c;
    used = used;
  } where
    used : (c : ℕ) → c < n.count → (t : Terminal) × IsTerminal seen_netlist l t × (seen_netlist.class t ≡ c)
    used c low =
        let p = turn_reached 0 n.count c n.classes is.turns (omega arith) low in
        let inside = slice_get_within n.classes p.0 c p.1 in
        let many = is.each in
        let t = at_place (terminals n) p.0 (omega (arith, inside, many)) in
        (t.0, there_terminal n l seen_netlist is_seen celled t.0 (p.0, t.1), is_seen.classes.each t.0 c (p.0, t.1, p.1))

  -- a right netlist shows its nodes by these classes too
  module _ (m : Machine) (checked : IsChecked m) (right : IsRightNetlist n l m) where
    abbrev first : AbstractNetlist
    first = right.sourced.netlist

    there_first : (t : Terminal) → IsTerminal first l t → IsThere (terminals n) t
    there_first t h = terminal_there n l first right.seen celled t h

    one_class : (t : Terminal) → IsThere (terminals n) t → first.class t ≡ seen_netlist.class t
    one_class t h = let c = has_class n is t h in right.seen.classes.each t c.0 c.1 ∙ sym (is_seen.classes.each t c.0 c.1)

    one_ports : first.ports ≡ seen_netlist.ports
    one_ports = seen_ports n first right.seen

    same : AreSame l first seen_netlist
    same = record {
      ports = λ name. (λ h. subst (λ (ns : List Name). In name ns) one_ports h, λ h. subst (λ (ns : List Name). In name ns) (sym one_ports) h);
      instances = seen_instances n first right.seen;
      terminals = λ t. (
        λ h. there_terminal n l seen_netlist is_seen celled t (there_first t h),
        λ h. there_terminal n l first right.seen celled t (terminal_there n l seen_netlist is_seen celled t h),
      );
      classes = λ a b is_a is_b.
          let p = one_class a (there_first a is_a) in
          let q = one_class b (there_first b is_b) in
          (λ e. sym p ∙ e ∙ q, λ e. p ∙ e ∙ sym q);
    }

    pub state_of : State l m (wired_of n)
    state_of = record {
      source = moved_source right.sourced seen_netlist l m right.values right.roots checked right.shows same counted;
      rank = right.sourced.rank;
      values = right.values;
      roots = right.roots;
      shows = shown_elsewhere right.sourced seen_netlist l m right.values right.roots checked right.shows same counted;
      means = right.means;
    }

-- ---- back into memory

module _ (r : InMemory) (l : Library) (is : IsNetlist r) (celled : (i : Instance) → IsThere r.instances i → IsCelled l i)
    (w : Wired) (of : IsNetlistOf r w) (m : Machine) (checked : IsChecked m) (s : State l m w) where
  abbrev seen : AbstractNetlist
  seen = seen_netlist r l is celled

  seen_is : IsSeenAs r seen
  seen_is = is_seen r l is celled

  to_seen : (t : Terminal) → IsTerminal (as_netlist w) l t → IsTerminal seen l t
  to_seen t (a_port {name = name} h) = a_port (subst (λ (ps : List Port). In name (map (λ p. p.name) ps)) (sym of.ports) h)
  to_seen t (a_pin i c listed found h) = a_pin i c (subst (λ (all : List Instance). In i (map member_of all)) (sym of.instances) listed) found h

  from_seen : (t : Terminal) → IsTerminal seen l t → IsTerminal (as_netlist w) l t
  from_seen t (a_port {name = name} h) = a_port (subst (λ (ps : List Port). In name (map (λ p. p.name) ps)) of.ports h)
  from_seen t (a_pin i c listed found h) = a_pin i c (subst (λ (all : List Instance). In i (map member_of all)) of.instances listed) found h

  class_of : (t : Terminal) → IsTerminal (as_netlist w) l t → HasClass r t (seen.class t)
  class_of t h = seen_class r seen is seen_is t (terminal_there r l seen seen_is celled t (to_seen t h))

  same_wired : AreSame l (as_netlist w) seen
  same_wired = record {
    ports = λ name. (
      λ h. subst (λ (ps : List Port). In name (map (λ p. p.name) ps)) (sym of.ports) h,
      λ h. subst (λ (ps : List Port). In name (map (λ p. p.name) ps)) of.ports h,
    );
    instances = ap (map member_of) (sym of.instances);
    terminals = λ t. (to_seen t, from_seen t);
    classes = λ a b is_a is_b.
        let e = of.classes a b (seen.class a) (seen.class b) (class_of a is_a) (class_of b is_b) in (e.1, e.0);
  }

  pub right_of : r.name ≡ m.name → r.ports ≡ with_supply vss (with_supply vdd m.ports) → IsRightNetlist r l m
  right_of name ports = record {
    name = name;
    ports = ports;
    sourced = record {
      netlist = seen;
      source = moved_source (sourced w s.source s.rank) seen l m s.values s.roots checked s.shows same_wired (counted r l is celled);
      rank = s.rank;
    };
    seen = seen_is;
    values = s.values;
    roots = s.roots;
    shows = shown_elsewhere (sourced w s.source s.rank) seen l m s.values s.roots checked s.shows same_wired (counted r l is celled);
    means = s.means;
  }

-- ---- the law

pub gate_cell : (l : Library) (c : Cell) (gates : ℕ) → Repeats l c gates → IsGateCell l c
gate_cell l c gates (once b gives) = b
gate_cell l c gates (twice b inverts) = b

-- no gate was put in, or there is a cell for them
pub data WasLimited (l : Library) (b : Repeater) (names : List (List ℕ)) (n k : Wired) : Type 0 where
  unchanged : names ≡ [] → k ≡ n → WasLimited l b names n k
  by_gates : Repeats l b.cell b.gates → WasLimited l b names n k

was_limited : (l : Library) (limit : ℕ) (b : Repeater) (names : List (List ℕ)) (n k : Wired) → IsLimited l limit b names n k
    → ((class : ℕ) × (limit < length (sinks l n class)) → Repeats l b.cell b.gates) → WasLimited l b names n k
was_limited l limit b names n k (within few) found = unchanged refl refl
was_limited l limit b names n k (round class rows large earlier groups many rest) found = by_gates (found (class, large))

module _ (tracks : Bool) (n : InMemory) (l : Library) (limit : ℕ) (r : InMemory) (passed : HasPassed tracks l) (is_n : IsNetlist n) (is_r : IsNetlist r) (of_cells : IsOfCells n l)
    (buffered : IsBuffered n l limit r) where
  abbrev pub cell : Cell
  cell = buffered.repeater.cell

  pub how : WasLimited l buffered.repeater buffered.names (wired_of n) buffered.wired
  how = was_limited l limit buffered.repeater buffered.names (wired_of n) buffered.wired buffered.limited (λ crowded. repeats tracks l passed buffered.repeater (buffered.chosen crowded))

  pub celled_n : (i : Instance) → IsThere n.instances i → IsCelled l i
  celled_n i h = let c = of_cells.found i h in record { cell = c.0; found = c.1; connected = c.2.connectors; pins = c.3 }

  pub all_instances : r.instances ≡ n.instances ++ map (gate_named cell) buffered.names
  all_instances = buffered.is.instances ∙ (limited_stays_beside l limit buffered.repeater buffered.names (wired_of n) buffered.wired buffered.limited).instances

  pub ports_same : r.ports ≡ n.ports
  ports_same = buffered.is.ports ∙ (limited_stays_beside l limit buffered.repeater buffered.names (wired_of n) buffered.wired buffered.limited).ports

  pub celled_new : WasLimited l buffered.repeater buffered.names (wired_of n) buffered.wired → (i : Instance) → In i (map (gate_named cell) buffered.names) → IsCelled l i
  celled_new (unchanged none alike) i h = absurd (nothing i (subst (λ (all : List (List ℕ)). In i (map (gate_named cell) all)) none h)) where
    nothing : (i : Instance) → In i [] → ⊥
    nothing i k = elim k [ ]
  celled_new (by_gates repeats) i h =
      let b = gate_cell l cell buffered.repeater.gates repeats in
      let x = In-map_back (gate_named cell) i buffered.names h in
      subst (λ (y : Instance). IsCelled l y) x.2 (record { cell = cell; found = b.found; connected = b.usable.connectors; pins = refl })

  pub celled_r : (i : Instance) → IsThere r.instances i → IsCelled l i
  celled_r i h =
      let listed = subst (λ (all : List Instance). In i all) all_instances (in_from_place r.instances h.0 i h.1) in
      elim (In-split i n.instances (map (gate_named cell) buffered.names) listed) [
        | inl old ↦ celled_n i (in_place i n.instances old)
        | inr new ↦ celled_new how i new
      ]

  pub new_names : AreNew cell buffered.names n.instances
  new_names =
      are_new cell buffered.names n.instances
      (buffer_names (map (λ (i : Instance). i.name) n.instances) (length buffered.names) buffered.names buffered.named)
      (subst (λ (all : List Instance). NoneTwice (map (λ i. i.name) all)) all_instances is_r.names)

  module _ (m : Machine) (checked : IsChecked m) (right : IsRightNetlist n l m) where
    state : WasLimited l buffered.repeater buffered.names (wired_of n) buffered.wired → State l m buffered.wired
    state (unchanged none alike) = subst (λ (w : Wired). State l m w) (sym alike) (state_of n l is_n celled_n m checked right)
    state (by_gates repeats) =
        limited_state l m checked limit buffered.repeater repeats buffered.names (wired_of n) buffered.wired buffered.limited (state_of n l is_n celled_n m checked right) new_names

    right_still : IsRightNetlist r l m
    right_still =
        right_of r l is_r celled_r buffered.wired buffered.is m checked (state how)
        (buffered.name ∙ right.name) (ports_same ∙ right.ports)

pub buffered_stays_right : BufferedStaysRight
buffered_stays_right tracks n l limit r passed is_n is_r of_cells buffered m checked right =
    right_still tracks n l limit r passed is_n is_r of_cells buffered m checked right
