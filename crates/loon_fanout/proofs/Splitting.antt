-- A group of sinks behind one buffer, as a split of a class.
use Rattle.std.proofs.Common.{◌≡◌, ◌≢◌, ◌⊎◌, inl, inr, ℕ, suc, ◌-◌, ◌<◌, Bool, true, false, not, ◌&&◌, ◌||◌, List, [], ◌∷◌, map, filter, length, Option, None, Some, refl, sym, ◌∙◌, ap, subst, arith, nat_eq, eqb-true, if◌then◌else◌}
use Rattle.std.proofs.lemmas.List.{map-append}
use Rattle.std.specs.List.{flat_map, list_any}
use Rattle.vlsi_base.specs.declared.name.Name.{Name}
use Rattle.vlsi_base.specs.declared.name.Port.{Port}
use Rattle.vlsi_base.specs.declared.name.Terminal.{Terminal}
use Rattle.vlsi_base.specs.Names.{vdd, vss}
use Rattle.vlsi_base.specs.Member.{In, here, there, AllDifferent}
use Rattle.machine_core.specs.Machine.{Machine, is_input, names_of}
use Rattle.machine_core.specs.Named.{is_same_text, is_same_name}
use Rattle.machine_core.proofs.Names.{same_name-true, same_name-itself, same_name-false}
use Rattle.cell_model.specs.Cell.{Function, gate, flip_flop, Cell, pin_ports, cell_inputs, cell_outputs}
use Rattle.cell_model.specs.Library.{Library, cell_of, IsUsable, IsPlain}
use Rattle.cell_model.proofs.Texts.{text_itself, text_differs}
use Rattle.cell_model.proofs.Members.{In-map, In-map_back}
use Rattle.cell_pins.proofs.Ports.{in_filter, sorted_of, sorted_different}
use Rattle.net_core.specs.Netlist.{Instance, pin_of, port}
use Rattle.net_meaning.specs.Netlist.{Member, IsTerminal, a_port, a_pin}
use Rattle.net_meaning.specs.Agreement.{register_instance}
use Rattle.net_meaning.specs.Well.{Has, named_b, buffer_instance}
use Rattle.net_theory.specs.Sources.{Source, node, Values, Seat, Roots, Shows}
use Rattle.cell_pins.specs.Pins.{all_ports}
use Rattle.net_theory.specs.Split.{IsBuffer, IsSplit}
use Rattle.net_theory.proofs.Seats.{In-two, Sits, sits}
use Rattle.net_right.specs.View.{member_of}
use Rattle.loon_loads.specs.Sinks.{is_clock_of, is_sink_pin, is_sink_of}
use Rattle.loon_fanout.specs.Sinks.{Wired, instance_sinks, sinks, is_same_owner, is_same_terminal}
use Rattle.loon_fanout.specs.Wired.{pin_class, with_group}
use Rattle.loon_fanout.specs.Laws.{as_netlist, sourced, IsOneGate, is_in, roots_after, GroupSplits}
use Rattle.loon_fanout.proofs.Picking.{flat_in, any_in, in_any, is_false}
use Rattle.loon_fanout.proofs.Supplies.{sink_reads}
use Rattle.loon_fanout.proofs.Terminals.{terminal_same, terminal_itself, owner_same}

-- ---- lists

either : (a b : Bool) → (a || b) ≡ true → (a ≡ true) ⊎ (b ≡ true)
either true b h = inl refl
either false b h = inr h

both : (a b : Bool) → (a && b) ≡ true → (a ≡ true) × (b ≡ true)
both true true h = (refl, refl)
both true false h = absurd (cc h)
both false b h = absurd (cc h)

pub one_of : {A : Type 0} (xs : List A) → length xs ≡ 1 → (x : A) × (xs ≡ x ∷ [])
one_of [] h = absurd (omega (arith, h))
one_of (x ∷ []) h = (x, refl)
one_of (x ∷ y ∷ xs) h = absurd (omega (arith, h))

-- ---- pins

one_port : (ps : List Port) (p q : Port) → AllDifferent (names_of ps) → In p ps → In q ps → p.name ≡ q.name → p ≡ q
one_port [] p q d a b e = elim a [ ]
one_port (x ∷ ps) p q d here here e = refl
one_port (x ∷ ps) p q d here (there b) e = absurd (d.0 (subst (λ (n : Name). In n (names_of ps)) (sym e) (In-map (λ (y : Port). y.name) q ps b)))
one_port (x ∷ ps) p q d (there a) here e = absurd (d.0 (subst (λ (n : Name). In n (names_of ps)) e (In-map (λ (y : Port). y.name) p ps a)))
one_port (x ∷ ps) p q d (there a) (there b) e = one_port ps p q d.1 a b e

-- no pin is an input and an output
pub in_or_out : (c : Cell) (name : Name) → IsUsable c → In name (cell_inputs c) → In name (cell_outputs c) → ⊥
in_or_out c name usable a b =
    let p = In-map_back (λ (y : Port). y.name) name (filter (λ p. is_input p.dir) (pin_ports c)) a in
    let q = In-map_back (λ (y : Port). y.name) name (filter (λ p. not (is_input p.dir)) (pin_ports c)) b in
    let p_in = in_filter (λ (y : Port). is_input y.dir) (pin_ports c) p.0 p.1 in
    let q_in = in_filter (λ (y : Port). not (is_input y.dir)) (pin_ports c) q.0 q.1 in
    let same = one_port (pin_ports c) p.0 q.0 (sorted_different (pin_ports c) (sorted_of (pin_ports c) usable.order)) p_in.0 q_in.0 (p.2 ∙ sym q.2) in
    let no : not (is_input p.0.dir) ≡ true = subst (λ (y : Port). not (is_input y.dir) ≡ true) (sym same) q_in.1 in
    let yes : not true ≡ true = subst (λ (x : Bool). not x ≡ true) p_in.1 no in
    absurd (cc yes)

-- a sink is a pin of an instance's cell, an input and no clock pin
pub record SinkAt (l : Library) (w : Wired) (k : ℕ) (t : Terminal) : Type 0 where
  pub owner : Instance
  pub listed : In owner w.instances
  pub cell : Cell
  pub found : cell_of l owner.model ≡ Some cell
  pub pin : Name
  pub input : In pin (cell_inputs cell)
  pub no_clock : is_clock_of cell.function pin ≡ false
  pub is : t ≡ pin_of owner.name pin
  pub class : w.class t ≡ k

no_not : (b : Bool) → not b ≡ true → b ≡ false
no_not true h = absurd (cc h)
no_not false h = refl

has_cell : (o : Option Cell) (p : Name) → is_sink_of o p ≡ true → (c : Cell) × (o ≡ Some c) × (is_sink_pin c p ≡ true)
has_cell None p h = absurd (cc h)
has_cell (Some c) p h = (c, refl, h)

pub sink_at : (l : Library) (w : Wired) (k : ℕ) (t : Terminal) → In t (sinks l w k) → SinkAt l w k t
sink_at l w k t h =
    let f = in_filter (λ (x : Terminal). nat_eq (w.class x) k) (flat_map (instance_sinks l) w.instances) t (sink_reads l w k t h) in
    let i = flat_in (instance_sinks l) t w.instances f.0 in
    let p = In-map_back (pin_of i.0.name) t (filter (is_sink_of (cell_of l i.0.model)) i.0.pins) i.2 in
    let s = in_filter (is_sink_of (cell_of l i.0.model)) i.0.pins p.0 p.1 in
    let c = has_cell (cell_of l i.0.model) p.0 s.1 in
    let parts = both (list_any (λ pin. is_same_name pin p.0) (cell_inputs c.0)) (not (is_clock_of c.0.function p.0)) c.2 in
    let q = any_in (λ (pin : Name). is_same_name pin p.0) (cell_inputs c.0) parts.0 in
    record {
      owner = i.0;
      listed = i.1;
      cell = c.0;
      found = c.1;
      pin = p.0;
      input = subst (λ (n : Name). In n (cell_inputs c.0)) (same_name-true q.0 p.0 q.2) q.1;
      no_clock = no_not (is_clock_of c.0.function p.0) parts.1;
      is = sym p.2;
      class = eqb-true (w.class t) k f.1;
    }

-- ---- the split

module _ (w : Wired) (source : ℕ → Source) (rank : ℕ → ℕ) (l : Library) (m : Machine) (f : Values) (r : Roots) (h : Shows (sourced w source rank) l m f r)
    (c : Cell) (b : IsOneGate l c) (name : List ℕ) (j : ℕ) (named : name ≡ buffer_instance j) (new_name : (i : Instance) → In i w.instances → i.name ≢ name)
    (k a fresh : ℕ) (low : k < w.count) (shows_a : source k ≡ node a) (group : List Terminal) (sunk : (t : Terminal) → In t group → In t (sinks l w k)) where
  abbrev after : Wired
  after = with_group c w k (name ∷ []) group

  abbrev moved : Terminal → Bool
  moved t = list_any (is_same_terminal t) group

  moved_sink : (t : Terminal) → moved t ≡ true → SinkAt l w k t
  moved_sink t e =
      let u = any_in (is_same_terminal t) group e in
      sink_at l w k t (sunk t (subst (λ (x : Terminal). In x group) (sym (terminal_same t u.0 u.2)) u.1))

  not_new : (t : Terminal) → moved t ≡ true → t.instance ≡ Some name → ⊥
  not_new t e is =
      let s = moved_sink t e in
      let same : Some s.owner.name ≡ Some name = ap (λ (x : Terminal). x.instance) (sym s.is) ∙ is in
      new_name s.owner s.listed (cc same)

  member : (i : Member) → In i (map member_of w.instances) → i.name ≢ name
  member i listed e =
      let x = In-map_back member_of i w.instances listed in
      new_name x.0 x.1 (ap (λ (y : Member). y.name) x.2 ∙ e)

  last : suc w.count - 1 ≡ w.count
  last = omega arith

  old_owner : (t : Terminal) → IsTerminal (as_netlist w) l t → is_same_owner t.instance (Some name) ≡ false
  old_owner t (a_port listed) = refl
  old_owner t (a_pin i cell listed found pin) = text_differs i.name name (member i listed)

  class_after : (t : Terminal) → IsTerminal (as_netlist w) l t → after.class t ≡ (if moved t then w.count else w.class t)
  class_after t is =
      ap (λ (x : ℕ). if moved t then x else (if is_same_owner t.instance (Some name) then pin_class w c k t.pin else w.class t)) last
      ∙ ap (λ (x : Bool). if moved t then w.count else (if x then pin_class w c k t.pin else w.class t)) (old_owner t is)

  -- the class of a pin of the buffer
  new_class : (pin : Name) → after.class (pin_of name pin) ≡ pin_class w c k pin
  new_class pin =
      let stays = is_false (moved (pin_of name pin)) (λ e. not_new (pin_of name pin) e refl) in
      ap (λ (x : Bool). if x then suc w.count - 1 else (if is_same_text name name then pin_class w c k pin else w.class (pin_of name pin))) stays
      ∙ ap (λ (x : Bool). if x then pin_class w c k pin else w.class (pin_of name pin)) (text_itself name)

  abbrev input : Name
  input = (one_of (cell_inputs c) b.one).0

  input_is : cell_inputs c ≡ input ∷ []
  input_is = (one_of (cell_inputs c) b.one).1

  plain : IsPlain c (gate b.expr)
  plain = subst (λ (u : Function). IsPlain c u) b.is_gate b.usable.function

  abbrev output : Name
  output = (one_of (cell_outputs c) plain.0).0

  output_is : cell_outputs c ≡ output ∷ []
  output_is = (one_of (cell_outputs c) plain.0).1

  in_inputs : In input (cell_inputs c)
  in_inputs = subst (λ (ns : List Name). In input ns) (sym input_is) here

  in_outputs : In output (cell_outputs c)
  in_outputs = subst (λ (ns : List Name). In output ns) (sym output_is) here

  signal : (test : Port → Bool) (pin : Name) → In pin (names_of (filter test (pin_ports c))) → (pin ≢ vdd) × (pin ≢ vss)
  signal test pin inside =
      let p = In-map_back (λ (y : Port). y.name) pin (filter test (pin_ports c)) inside in
      let q = in_filter test (pin_ports c) p.0 p.1 in
      b.signals pin (subst (λ (n : Name). In n (names_of (pin_ports c))) p.2 (In-map (λ (y : Port). y.name) p.0 (pin_ports c) q.0))

  input_class : pin_class w c k input ≡ k
  input_class =
      let s = signal (λ p. is_input p.dir) input in_inputs in
      let among = in_any (λ (pin : Name). is_same_name pin input) (cell_inputs c) input in_inputs (same_name-itself input) in
      rw (same_name-false input vdd s.0, same_name-false input vss s.1, among) refl

  output_class : pin_class w c k output ≡ w.count
  output_class =
      let s = signal (λ p. not (is_input p.dir)) output in_outputs in
      let apart = is_false (list_any (λ pin. is_same_name pin output) (cell_inputs c)) (λ e.
      let x = any_in (λ (pin : Name). is_same_name pin output) (cell_inputs c) e in
      in_or_out c output b.usable (subst (λ (n : Name). In n (cell_inputs c)) (same_name-true x.0 output x.2) x.1) in_outputs) in
      rw (same_name-false output vdd s.0, same_name-false output vss s.1, apart) refl

  vdd_class : pin_class w c k vdd ≡ w.class (port vdd)
  vdd_class = refl

  vss_class : pin_class w c k vss ≡ w.class (port vss)
  vss_class = refl

  abbrev is_buffer : IsBuffer l (record { name = name; model = c.name }) c
  is_buffer = record {
    found = b.found;
    usable = b.usable;
    expr = b.expr;
    is_gate = b.is_gate;
    input = input;
    output = output;
    one_input = input_is;
    one_output = output_is;
    same = b.same;
    named = named_b j named b.one;
  }

  no_output : (i : Member) (d : Cell) (pin : Name) → Has (as_netlist w) l i d → In pin (cell_outputs d) → moved (pin_of i.name pin) ≡ false
  no_output i d pin has out = is_false (moved (pin_of i.name pin)) (λ e.
      let s = moved_sink (pin_of i.name pin) e in
      let mine = sits (sourced w source rank) l m f r h i d has.listed has.found in
      let other = sits (sourced w source rank) l m f r h (member_of s.owner) s.cell (In-map member_of s.owner w.instances s.listed) s.found in
      let names : Some i.name ≡ Some s.owner.name = ap (λ (x : Terminal). x.instance) s.is in
      let one_name : i.name ≡ s.owner.name = cc names in
      let seats = h.one_name mine.seat other.seat mine.listed other.listed
      (ap (λ (x : Member). x.name) mine.member ∙ one_name ∙ sym (ap (λ (x : Member). x.name) other.member)) in
      let members : i ≡ member_of s.owner = sym mine.member ∙ ap (λ (x : Seat). x.member) seats ∙ other.member in
      let again : cell_of l i.model ≡ Some s.cell = subst (λ (x : Member). cell_of l x.model ≡ Some s.cell) (sym members) s.found in
      let found = has.found in
      let cells : s.cell ≡ d = cc (again, found) in
      let pins : pin ≡ s.pin = ap (λ (x : Terminal). x.pin) s.is in
      in_or_out d pin mine.usable (subst (λ (x : Cell). In pin (cell_inputs x)) cells (subst (λ (n : Name). In n (cell_inputs s.cell)) (sym pins) s.input)) out)

  -- the only sink of a flip-flop is its data pin
  loads_moved : (i : Member) (d : Cell) (data_pin clock_pin : Name) (x : ℕ) → Has (as_netlist w) l i d → d.function ≡ flip_flop data_pin clock_pin → i.name ≡ register_instance x
      → list_any (λ t. is_same_owner t.instance (Some (register_instance x))) group ≡ moved (pin_of i.name data_pin)
  loads_moved i d data_pin clock_pin x has is number = by (moved (pin_of i.name data_pin)) refl where
    mine : Sits (sourced w source rank) l m f r h.seats i d
    mine = sits (sourced w source rank) l m f r h i d has.listed has.found

    by : (y : Bool) → moved (pin_of i.name data_pin) ≡ y → list_any (λ t. is_same_owner t.instance (Some (register_instance x))) group ≡ y
    by true e =
        let u = any_in (is_same_terminal (pin_of i.name data_pin)) group e in
        let t_is = terminal_same (pin_of i.name data_pin) u.0 u.2 in
        in_any (λ (t : Terminal). is_same_owner t.instance (Some (register_instance x))) group u.0 u.1
        (subst (λ (t : Terminal). is_same_owner t.instance (Some (register_instance x)) ≡ true) t_is
        (subst (λ (n : List ℕ). is_same_text i.name n ≡ true) number (text_itself i.name)))
    by false e = is_false (list_any (λ t. is_same_owner t.instance (Some (register_instance x))) group) (λ any.
        let u = any_in (λ (t : Terminal). is_same_owner t.instance (Some (register_instance x))) group any in
        let s = sink_at l w k u.0 (sunk u.0 u.1) in
        let own : u.0.instance ≡ Some (register_instance x) = owner_same u.0.instance (Some (register_instance x)) u.2 in
        let names : Some s.owner.name ≡ Some (register_instance x) = ap (λ (t : Terminal). t.instance) (sym s.is) ∙ own in
        let one_name : s.owner.name ≡ register_instance x = cc names in
        let other = sits (sourced w source rank) l m f r h (member_of s.owner) s.cell (In-map member_of s.owner w.instances s.listed) s.found in
        let seats = h.one_name mine.seat other.seat mine.listed other.listed
        (ap (λ (y : Member). y.name) mine.member ∙ number ∙ sym one_name ∙ sym (ap (λ (y : Member). y.name) other.member)) in
        let members : i ≡ member_of s.owner = sym mine.member ∙ ap (λ (y : Seat). y.member) seats ∙ other.member in
        let again : cell_of l i.model ≡ Some s.cell = subst (λ (y : Member). cell_of l y.model ≡ Some s.cell) (sym members) s.found in
        let found = has.found in
        let cells : s.cell ≡ d = cc (again, found) in
        let function : s.cell.function ≡ flip_flop data_pin clock_pin = ap (λ (y : Cell). y.function) cells ∙ is in
        let off : is_same_name clock_pin s.pin ≡ false = subst (λ (u : Function). is_clock_of u s.pin ≡ false) function s.no_clock in
        let two : IsPlain d (flip_flop data_pin clock_pin) = subst (λ (u : Function). IsPlain d u) is mine.usable.function in
        let inside : In s.pin (cell_inputs d) = subst (λ (y : Cell). In s.pin (cell_inputs y)) cells s.input in
        let data_is : s.pin ≡ data_pin = elim (In-two data_pin clock_pin s.pin (cell_inputs d) two.1 two.2 two.3 two.4 inside) [
          | inl on_data ↦ on_data
          | inr on_clock ↦ absurd (let yes = subst (λ (n : Name). is_same_name clock_pin n ≡ false) on_clock off in let itself = same_name-itself clock_pin in let no : false ≡ true = sym yes ∙ itself in cc no)
        ] in
        let t_is : u.0 ≡ pin_of i.name data_pin =
        s.is ∙ ap (λ (n : List ℕ). pin_of n s.pin) (one_name ∙ sym number) ∙ ap (pin_of i.name) data_is in
        let hit = in_any (is_same_terminal (pin_of i.name data_pin)) group u.0 u.1 (subst (λ (t : Terminal). is_same_terminal (pin_of i.name data_pin) t ≡ true) (sym t_is) (terminal_itself (pin_of i.name data_pin))) in
        let no : false ≡ true = sym e ∙ hit in absurd (cc no))

  pub group_splits : IsSplit (sourced w source rank) (as_netlist after) l m (is_in group) a fresh r (roots_after r group fresh)
  group_splits = record {
    buffer = record { name = name; model = c.name };
    cell = c;
    is_buffer = is_buffer;
    new_name = member;
    ports = refl;
    instances = map-append member_of w.instances (record { name = name; model = c.name; pins = names_of (all_ports c) } ∷ []);
    classes = refl;
    class = class_after;
    moves = λ t e. let s = moved_sink t e in ap source s.class ∙ shows_a;
    no_port = λ n. is_false (moved (port n)) (λ e. let s = moved_sink (port n) e in
        let wrong : None ≡ Some s.owner.name = ap (λ (x : Terminal). x.instance) s.is in absurd (cc wrong));
    no_output = no_output;
    reads_low = subst (λ (x : ℕ). x < w.count) (sym (new_class input ∙ input_class)) low;
    reads = ap source (new_class input ∙ input_class) ∙ shows_a;
    drives = new_class output ∙ output_class;
    on_vdd = new_class vdd ∙ vdd_class;
    on_vss = new_class vss ∙ vss_class;
    outputs = refl;
    loads = λ i d data_pin clock_pin x has is number. ap (λ (y : Bool). if y then fresh else r.load x) (loads_moved i d data_pin clock_pin x has is number);
  }

pub group_is_split : GroupSplits
group_is_split w source rank l m f r h c b name j named new_name k a fresh low shows_a group sunk =
    group_splits w source rank l m f r h c b name j named new_name k a fresh low shows_a group sunk
