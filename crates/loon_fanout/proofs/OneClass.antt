-- Classes that the gates of rounds tie: what was one class still is, once these are taken out.
use Rattle.std.proofs.Common.{◌≡◌, ◌≢◌, inl, inr, ℕ, suc, ◌-◌, Bool, true, false, List, [], ◌∷◌, ◌++◌, length, map, filter, Some, refl, sym, ◌∙◌, ap, subst, arith, nat_eq, if◌then◌else◌}
use Rattle.std.proofs.lemmas.List.{map-append}
use Rattle.std.proofs.lemmas.Option.{same_Some}
use Rattle.std.specs.List.{All, flat_map, list_any}
use Rattle.vlsi_base.specs.declared.name.Name.{Name}
use Rattle.vlsi_base.specs.declared.name.Terminal.{Terminal}
use Rattle.vlsi_base.specs.Member.{In, here, there, AllDifferent}
use Rattle.machine_core.specs.Machine.{names_of}
use Rattle.cell_model.specs.Cell.{Cell, pin_ports, cell_inputs, cell_outputs}
use Rattle.cell_model.specs.Library.{Library, cell_of, IsUsable}
use Rattle.cell_model.proofs.Members.{In-split, In-left, In-right, In-map, In-map_back, All-In}
use Rattle.cell_model.proofs.Texts.{text_differs}
use Rattle.cell_pins.specs.Pins.{with_supply, all_ports}
use Rattle.cell_pins.proofs.Ports.{sorted_of, sorted_supply, sorted_different}
use Rattle.vlsi_base.specs.Names.{vdd, vss}
use Rattle.net_core.specs.Netlist.{Instance, Netlist as InMemory, IsNetlist}
use Rattle.net_meaning.specs.Netlist.{Member, pin_of}
use Rattle.net_meaning.specs.Well.{Has, buffer_instance}
use Rattle.net_right.specs.View.{member_of}
use Rattle.net_right.proofs.Lists.{in_place}
use Rattle.loon_loads.specs.Sinks.{is_sink_of}
use Rattle.loon_fanout.specs.Sinks.{Wired, instance_sinks, is_supply_class, sinks, is_same_terminal}
use Rattle.loon_fanout.specs.Wired.{pin_class, with_gate, with_moved, with_group}
use Rattle.loon_wiring.specs.Repeaters.{Repeater}
use Rattle.loon_fanout.specs.Limited.{AreGroups, last, next, Row, with_round, IsLimited, within, round, IsOfCells}
use Rattle.loon_fanout.specs.Laws.{as_netlist, gate_named}
use Rattle.net_meaning.specs.Buffers.{AreOne, alike, tied, turned, through}
use Rattle.loon_fanout.proofs.Picking.{any_in, different_apart, different_append, different_filter, different_map, different_of, different_right, flat_in, is_false}
use Rattle.loon_fanout.proofs.Terminals.{terminal_same}
use Rattle.loon_fanout.proofs.Supplies.{readers}
use Rattle.loon_fanout.proofs.Splitting.{in_or_out, sink_at}
use Rattle.loon_fanout.proofs.RightStates.{IsGateCell}
use Rattle.loon_fanout.proofs.RightPins.{own_class, input, output, in_inputs, in_outputs, input_class, output_class}
use Rattle.loon_fanout.proofs.RightMove.{IsSink}
use Rattle.loon_fanout.proofs.RightRounds.{AreNew, Repeats, once, twice, in_groups, sink_of}

-- ---- the sinks of a class differ

owned : (l : Library) (i : Instance) (t : Terminal) → In t (instance_sinks l i) → t.instance ≡ Some i.name
owned l i t h = let r = In-map_back (pin_of i.name) t (filter (is_sink_of (cell_of l i.model)) i.pins) h in ap (λ (x : Terminal). x.instance) (sym r.2)

all_differ : (l : Library) (is : List Instance) → AllDifferent (map (λ i. i.name) is) → ((i : Instance) → In i is → AllDifferent i.pins) → AllDifferent (flat_map (instance_sinks l) is)
all_differ l [] names pins = tt
all_differ l (i ∷ is) names pins =
    different_append (instance_sinks l i) (flat_map (instance_sinks l) is)
    (different_map (pin_of i.name) (filter (is_sink_of (cell_of l i.model)) i.pins) (λ x y e. ap (λ (t : Terminal). t.pin) e) (different_filter (is_sink_of (cell_of l i.model)) i.pins (pins i here)))
    (all_differ l is names.1 (λ x h. pins x (there h)))
    (λ t h g.
    let r = flat_in (instance_sinks l) t is g in
    let both : Some i.name ≡ Some r.0.name = sym (owned l i t h) ∙ owned l r.0 t r.2 in
    let same : i.name ≡ r.0.name = cc both in
    names.0 (subst (λ (n : List ℕ). In n (map (λ i. i.name) is)) (sym same) (In-map (λ (x : Instance). x.name) r.0 is r.1)))

pub sinks_differ : (l : Library) (w : Wired) → AllDifferent (map (λ i. i.name) w.instances) → ((i : Instance) → In i w.instances → AllDifferent i.pins) → (k : ℕ) → AllDifferent (sinks l w k)
sinks_differ l w names pins k = by (is_supply_class w k) where
  by : (b : Bool) → AllDifferent (if b then [] else readers l w k)
  by true = tt
  by false = different_filter (λ t. nat_eq (w.class t) k) (flat_map (instance_sinks l) w.instances) (all_differ l w.instances names pins)

-- ---- instances

-- names differ, cells are usable, and the pins of each differ
pub record AreGood (l : Library) (is : List Instance) : Type 0 where
  pub names : AllDifferent (map (λ i. i.name) is)
  pub usable : (i : Instance) (d : Cell) → In i is → cell_of l i.model ≡ Some d → IsUsable d
  pub pins : (i : Instance) → In i is → AllDifferent i.pins

pub one_instance : (is : List Instance) → AllDifferent (map (λ i. i.name) is) → (i j : Instance) → In i is → In j is → i.name ≡ j.name → i ≡ j
one_instance [] d i j a b e = elim a [ ]
one_instance (x ∷ is) d i j here here e = refl
one_instance (x ∷ is) d i j here (there b) e = absurd (d.0 (subst (λ (n : List ℕ). In n (map (λ i. i.name) is)) (sym e) (In-map (λ (y : Instance). y.name) j is b)))
one_instance (x ∷ is) d i j (there a) here e = absurd (d.0 (subst (λ (n : List ℕ). In n (map (λ i. i.name) is)) e (In-map (λ (y : Instance). y.name) i is a)))
one_instance (x ∷ is) d i j (there a) (there b) e = one_instance is d.1 i j a b e

pub pin_names_differ : (c : Cell) → IsUsable c → AllDifferent (names_of (all_ports c))
pin_names_differ c usable = sorted_different (all_ports c) (sorted_supply vss (with_supply vdd (pin_ports c)) (sorted_supply vdd (pin_ports c) (sorted_of (pin_ports c) usable.order)))

In-one : {A : Type 0} (x y : A) → In y (x ∷ []) → y ≡ x
In-one x y here = refl
In-one x y (there h) = elim h [ ]

pub still_good : (l : Library) (is : List Instance) (c : Cell) → IsGateCell l c → (name : List ℕ) → ((i : Instance) → In i is → i.name ≢ name) → AreGood l is → AreGood l (is ++ gate_named c name ∷ [])
still_good l is c b name new_name good = record {
  names = subst (λ (ns : List (List ℕ)). AllDifferent ns) (sym (map-append (λ (i : Instance). i.name) is (gate_named c name ∷ [])))
      (different_append (map (λ i. i.name) is) (name ∷ []) good.names (λ h. elim h [ ], tt) (λ x h g.
      let r = In-map_back (λ (i : Instance). i.name) x is h in new_name r.0 r.1 (r.2 ∙ In-one name x g)));
  usable = λ i d h found. elim (In-split i is (gate_named c name ∷ []) h) [
    | inl old ↦ good.usable i d old found
    | inr new ↦
        let known : cell_of l c.name ≡ Some d = subst (λ (x : Instance). cell_of l x.model ≡ Some d) (In-one (gate_named c name) i new) found in
        subst (λ (x : Cell). IsUsable x) (same_Some c d (sym b.found ∙ known)) b.usable
  ];
  pins = λ i h. elim (In-split i is (gate_named c name ∷ []) h) [
    | inl old ↦ good.pins i old
    | inr new ↦ subst (λ (x : Instance). AllDifferent x.pins) (sym (In-one (gate_named c name) i new)) (pin_names_differ c b.usable)
  ];
}

-- ---- what follows

-- what was one class still is, and each sink is in one with the class that it was in
pub record Follows (l : Library) (w u : Wired) : Type 0 where
  pub ones : (a d : ℕ) → AreOne (as_netlist w) l a d → AreOne (as_netlist u) l a d
  pub kept : (t : Terminal) → IsSink l w t → IsSink l u t
  pub moves : (t : Terminal) → IsSink l w t → AreOne (as_netlist u) l (w.class t) (u.class t)

follow_itself : (l : Library) (w : Wired) → Follows l w w
follow_itself l w = record { ones = λ a d h. h; kept = λ t h. h; moves = λ t h. alike }

follow_on : (l : Library) (w u v : Wired) → Follows l w u → Follows l u v → Follows l w v
follow_on l w u v f g = record {
  ones = λ a d h. g.ones a d (f.ones a d h);
  kept = λ t h. g.kept t (f.kept t h);
  moves = λ t h. through (g.ones (w.class t) (u.class t) (f.moves t h)) (g.moves t (f.kept t h));
}

-- an instance ties the classes of its pins
tied_at : (l : Library) (c : Cell) (b : IsGateCell l c) (v : Wired) (name : List ℕ) (j : ℕ) → name ≡ buffer_instance j → In (gate_named c name) v.instances → (a d : ℕ)
    → v.class (pin_of name (input l c b)) ≡ a → v.class (pin_of name (output l c b)) ≡ d → AreOne (as_netlist v) l a d
tied_at l c b v name j named listed a d reads drives =
    subst (λ (x : ℕ). AreOne (as_netlist v) l x d) reads (subst (λ (x : ℕ). AreOne (as_netlist v) l (v.class (pin_of name (input l c b))) x) drives
    (tied (member_of (gate_named c name)) c j (input l c b) (output l c b) (record { listed = In-map member_of (gate_named c name) v.instances listed; found = b.found }) named (in_inputs l c b) (in_outputs l c b)))

module _ (l : Library) (c : Cell) (b : IsGateCell l c) (w : Wired) (k : ℕ) (name : List ℕ) (new_name : (i : Instance) → In i w.instances → i.name ≢ name) where
  abbrev gated : Wired
  gated = with_gate c w k name

  pub class_old : (owner : List ℕ) (pin : Name) → owner ≢ name → gated.class (pin_of owner pin) ≡ w.class (pin_of owner pin)
  class_old owner pin apart = ap (λ (x : Bool). if x then pin_class w c k pin else w.class (pin_of owner pin)) (text_differs owner name apart)

  pub sink_class : (t : Terminal) → IsSink l w t → gated.class t ≡ w.class t
  sink_class t s = ap gated.class s.is ∙ class_old s.owner.name s.pin (new_name s.owner s.listed) ∙ ap w.class (sym s.is)

  gate_ones : (a d : ℕ) → AreOne (as_netlist w) l a d → AreOne (as_netlist gated) l a d
  gate_ones a d alike = alike
  gate_ones a d (tied i e j x y has named x_in y_in) =
      let m = In-map_back member_of i w.instances has.listed in
      let apart : i.name ≢ name = λ same. new_name m.0 m.1 (ap (λ (z : Member). z.name) m.2 ∙ same) in
      let listed = subst (λ (all : List Member). In i all) (sym (map-append member_of w.instances (gate_named c name ∷ []))) (In-left i (map member_of w.instances) (map member_of (gate_named c name ∷ [])) has.listed) in
      let now : AreOne (as_netlist gated) l (gated.class (pin_of i.name x)) (gated.class (pin_of i.name y)) =
      tied i e j x y (record { listed = listed; found = has.found }) named x_in y_in in
      subst (λ (z : ℕ). AreOne (as_netlist gated) l z (w.class (pin_of i.name y))) (class_old i.name x apart)
      (subst (λ (z : ℕ). AreOne (as_netlist gated) l (gated.class (pin_of i.name x)) z) (class_old i.name y apart) now)
  gate_ones a d (turned h) = turned (gate_ones d a h)
  gate_ones a d (through {b = mid} h g) = through (gate_ones a mid h) (gate_ones mid d g)

  pub gate_follows : Follows l w gated
  gate_follows = record {
    ones = gate_ones;
    kept = λ t s. record {
      owner = s.owner;
      listed = In-left s.owner w.instances (gate_named c name ∷ []) s.listed;
      cell = s.cell;
      found = s.found;
      pin = s.pin;
      input = s.input;
      no_clock = s.no_clock;
      is = s.is;
    };
    moves = λ t s. subst (λ (z : ℕ). AreOne (as_netlist gated) l (w.class t) z) (sym (sink_class t s)) alike;
  }

-- sinks of class k moved to one that is one with it
module _ (l : Library) (u : Wired) (good : AreGood l u.instances) (group : List Terminal) (k to : ℕ) (to_is : u.count - 1 ≡ to)
    (each : (t : Terminal) → In t group → IsSink l u t × (u.class t ≡ k)) (one : AreOne (as_netlist (with_moved group u)) l k to) where
  abbrev after : Wired
  after = with_moved group u

  abbrev moved : Terminal → Bool
  moved t = list_any (is_same_terminal t) group

  moved_in : (t : Terminal) → moved t ≡ true → In t group
  moved_in t e =
      let x = any_in (is_same_terminal t) group e in
      subst (λ (y : Terminal). In y group) (sym (terminal_same t x.0 x.2)) x.1

  class_after : (t : Terminal) → after.class t ≡ (if moved t then to else u.class t)
  class_after t = ap (λ (x : ℕ). if moved t then x else u.class t) to_is

  no_output : (i : Member) (d : Cell) (pin : Name) → Has (as_netlist u) l i d → In pin (cell_outputs d) → moved (pin_of i.name pin) ≡ false
  no_output i d pin has out = is_false (moved (pin_of i.name pin)) (λ e.
      let s = (each (pin_of i.name pin) (moved_in (pin_of i.name pin) e)).0 in
      let m = In-map_back member_of i u.instances has.listed in
      let names : Some i.name ≡ Some s.owner.name = ap (λ (x : Terminal). x.instance) s.is in
      let name : i.name ≡ s.owner.name = cc names in
      let same = one_instance u.instances good.names m.0 s.owner m.1 s.listed (ap (λ (x : Member). x.name) m.2 ∙ name) in
      let found : cell_of l m.0.model ≡ Some d = subst (λ (x : Member). cell_of l x.model ≡ Some d) (sym m.2) has.found in
      let again : cell_of l m.0.model ≡ Some s.cell = subst (λ (x : Instance). cell_of l x.model ≡ Some s.cell) (sym same) s.found in
      let cells : s.cell ≡ d = same_Some s.cell d (sym again ∙ found) in
      let pins : pin ≡ s.pin = ap (λ (x : Terminal). x.pin) s.is in
      let into : In pin (cell_inputs s.cell) = subst (λ (n : Name). In n (cell_inputs s.cell)) (sym pins) s.input in
      in_or_out d pin (good.usable m.0 d m.1 found) (subst (λ (x : Cell). In pin (cell_inputs x)) cells into) out)

  output_same : (i : Member) (d : Cell) (pin : Name) → Has (as_netlist u) l i d → In pin (cell_outputs d) → after.class (pin_of i.name pin) ≡ u.class (pin_of i.name pin)
  output_same i d pin has out = class_after (pin_of i.name pin) ∙ ap (λ (x : Bool). if x then to else u.class (pin_of i.name pin)) (no_output i d pin has out)

  from_old : (t : Terminal) → AreOne (as_netlist after) l (u.class t) (after.class t)
  from_old t = subst (λ (x : ℕ). AreOne (as_netlist after) l (u.class t) x) (sym (class_after t)) (by (moved t) refl) where
    by : (x : Bool) → moved t ≡ x → AreOne (as_netlist after) l (u.class t) (if x then to else u.class t)
    by true e = subst (λ (x : ℕ). AreOne (as_netlist after) l x to) (sym (each t (moved_in t e)).1) one
    by false e = alike

  move_ones : (a d : ℕ) → AreOne (as_netlist u) l a d → AreOne (as_netlist after) l a d
  move_ones a d alike = alike
  move_ones a d (tied i e j x y has named x_in y_in) =
      let now : AreOne (as_netlist after) l (after.class (pin_of i.name x)) (after.class (pin_of i.name y)) =
      tied i e j x y (record { listed = has.listed; found = has.found }) named x_in y_in in
      through (from_old (pin_of i.name x)) (subst (λ (z : ℕ). AreOne (as_netlist after) l (after.class (pin_of i.name x)) z) (output_same i e y has y_in) now)
  move_ones a d (turned h) = turned (move_ones d a h)
  move_ones a d (through {b = mid} h g) = through (move_ones a mid h) (move_ones mid d g)

  move_follows : Follows l u after
  move_follows = record {
    ones = move_ones;
    kept = λ t s. record { owner = s.owner; listed = s.listed; cell = s.cell; found = s.found; pin = s.pin; input = s.input; no_clock = s.no_clock; is = s.is };
    moves = λ t s. from_old t;
  }

-- pins of instances of other names aren't moved
pub own_kept : (l : Library) (w u : Wired) (group : List Terminal) → ((t : Terminal) → In t group → IsSink l w t) → (name : List ℕ) (pin : Name) → ((i : Instance) → In i w.instances → i.name ≢ name)
    → (with_moved group u).class (pin_of name pin) ≡ u.class (pin_of name pin)
own_kept l w u group each name pin apart = ap (λ (x : Bool). if x then u.count - 1 else u.class (pin_of name pin)) (is_false (list_any (is_same_terminal (pin_of name pin)) group) (λ e.
    let x = any_in (is_same_terminal (pin_of name pin)) group e in
    let s = each x.0 x.1 in
    let owners : Some s.owner.name ≡ Some name = ap (λ (t : Terminal). t.instance) (sym s.is ∙ sym (terminal_same (pin_of name pin) x.0 x.2)) in
    let owner : s.owner.name ≡ name = cc owners in
    absurd (apart s.owner s.listed owner)))

-- what isn't in the group stays
others_stay : (group : List Terminal) (u : Wired) (t : Terminal) → (In t group → ⊥) → (with_moved group u).class t ≡ u.class t
others_stay group u t apart = ap (λ (x : Bool). if x then u.count - 1 else u.class t) (is_false (list_any (is_same_terminal t) group) (λ e.
    let x = any_in (is_same_terminal t) group e in
    apart (subst (λ (y : Terminal). In y group) (sym (terminal_same t x.0 x.2)) x.1)))

-- ---- rows

one_less : (x : ℕ) → suc x - 1 ≡ x
one_less x = omega arith

pub record RowFollows (l : Library) (c : Cell) (rest : List (List ℕ)) (group : List Terminal) (w u : Wired) : Type 0 where
  pub follows : Follows l w u
  pub names : AreNew c rest u.instances
  pub good : AreGood l u.instances
  pub stays : (t : Terminal) → IsSink l w t → (In t group → ⊥) → u.class t ≡ w.class t

pub row_follows : (l : Library) (c : Cell) (gates : ℕ) → Repeats l c gates → (w : Wired) (k : ℕ) (group : List Terminal) → AreGood l w.instances → ((t : Terminal) → In t group → IsSink l w t × (w.class t ≡ k))
    → (names others later : List (List ℕ)) → length names ≡ gates → AreNew c ((names ++ others) ++ later) w.instances
    → RowFollows l c (others ++ later) group w (with_group c w k names group)
row_follows l c gates (once b gives) w k group good each [] others later many new = absurd (omega (arith, many))
row_follows l c gates (once b gives) w k group good each (x ∷ y ∷ names) others later many new = absurd (omega (arith, many))
row_follows l c gates (once b gives) w k group good each (x ∷ []) others later many new =
    let u = with_gate c w k x in
    let v = with_moved group u in
    let f = gate_follows l c b w k x new.1 in
    let good_u = still_good l w.instances c b x new.1 good in
    let sunk = λ (t : Terminal) (h : In t group). (each t h).0 in
    let tie = tied_at l c b v x new.0.0 new.0.1 (In-right (gate_named c x) w.instances (gate_named c x ∷ []) here) k w.count
    (own_kept l w u group sunk x (input l c b) new.1 ∙ own_class c w x k (input l c b) ∙ input_class l c b w k)
    (own_kept l w u group sunk x (output l c b) new.1 ∙ own_class c w x k (output l c b) ∙ output_class l c b w k) in
    let each_u : (t : Terminal) → In t group → IsSink l u t × (u.class t ≡ k) = λ t h. (f.kept t (sunk t h), sink_class l c b w k x new.1 t (sunk t h) ∙ (each t h).1) in
    let g = move_follows l u good_u group k w.count (one_less w.count) each_u tie in
    record {
      follows = follow_on l w u v f g;
      names = new.2;
      good = record { names = good_u.names; usable = good_u.usable; pins = good_u.pins };
      stays = λ t s apart. others_stay group u t apart ∙ sink_class l c b w k x new.1 t s;
    }
row_follows l c gates (twice b inverts) w k group good each [] others later many new = absurd (omega (arith, many))
row_follows l c gates (twice b inverts) w k group good each (x ∷ []) others later many new = absurd (omega (arith, many))
row_follows l c gates (twice b inverts) w k group good each (x ∷ y ∷ z ∷ names) others later many new = absurd (omega (arith, many))
row_follows l c gates (twice b inverts) w k group good each (x ∷ y ∷ []) others later many new =
    let u1 = with_gate c w k x in
    let u2 = with_gate c u1 w.count y in
    let v = with_moved group u2 in
    let new_y = new.2.1 in
    let old_y : (i : Instance) → In i w.instances → i.name ≢ y = λ i h. new_y i (In-left i w.instances (gate_named c x ∷ []) h) in
    let apart_xy : x ≢ y = new_y (gate_named c x) (In-right (gate_named c x) w.instances (gate_named c x ∷ []) here) in
    let f1 = gate_follows l c b w k x new.1 in
    let f2 = gate_follows l c b u1 w.count y new_y in
    let f = follow_on l w u1 u2 f1 f2 in
    let good1 = still_good l w.instances c b x new.1 good in
    let good2 = still_good l u1.instances c b y new_y good1 in
    let sunk = λ (t : Terminal) (h : In t group). (each t h).0 in
    let class_2 : (t : Terminal) → IsSink l w t → u2.class t ≡ w.class t = λ t s. sink_class l c b u1 w.count y new_y t (f1.kept t s) ∙ sink_class l c b w k x new.1 t s in
    let first = tied_at l c b v x new.0.0 new.0.1
    (In-left (gate_named c x) u1.instances (gate_named c y ∷ []) (In-right (gate_named c x) w.instances (gate_named c x ∷ []) here)) k w.count
    (own_kept l w u2 group sunk x (input l c b) new.1 ∙ class_old l c b u1 w.count y new_y x (input l c b) apart_xy ∙ own_class c w x k (input l c b) ∙ input_class l c b w k)
    (own_kept l w u2 group sunk x (output l c b) new.1 ∙ class_old l c b u1 w.count y new_y x (output l c b) apart_xy ∙ own_class c w x k (output l c b) ∙ output_class l c b w k) in
    let second = tied_at l c b v y new.2.0.0 new.2.0.1 (In-right (gate_named c y) u1.instances (gate_named c y ∷ []) here) w.count u1.count
    (own_kept l w u2 group sunk y (input l c b) old_y ∙ own_class c u1 y w.count (input l c b) ∙ input_class l c b u1 w.count)
    (own_kept l w u2 group sunk y (output l c b) old_y ∙ own_class c u1 y w.count (output l c b) ∙ output_class l c b u1 w.count) in
    let each_2 : (t : Terminal) → In t group → IsSink l u2 t × (u2.class t ≡ k) = λ t h. (f.kept t (sunk t h), class_2 t (sunk t h) ∙ (each t h).1) in
    let g = move_follows l u2 good2 group k u1.count (one_less u1.count) each_2 (through first second) in
    record {
      follows = follow_on l w u2 v f g;
      names = new.2.2;
      good = record { names = good2.names; usable = good2.usable; pins = good2.pins };
      stays = λ t s apart. others_stay group u2 t apart ∙ class_2 t s;
    }

-- ---- rounds

pub record RoundFollows (l : Library) (c : Cell) (rest : List (List ℕ)) (w u : Wired) : Type 0 where
  pub follows : Follows l w u
  pub names : AreNew c rest u.instances
  pub good : AreGood l u.instances

abbrev pub group_of : Row → List Terminal
group_of r = r.group

in_rows : (x : Row) (rows : List Row) → In x rows → (t : Terminal) → In t x.group → In t (flat_map group_of rows)
in_rows x [] h t g = elim h [ ]
in_rows x (y ∷ ys) here t g = In-left t y.group (flat_map group_of ys) g
in_rows x (y ∷ ys) (there h) t g = In-right t y.group (flat_map group_of ys) (in_rows x ys h t g)

-- the sinks of the rows behind the first are still in the class
pub after_row : (l : Library) (c : Cell) (gates : ℕ) (rest : List (List ℕ)) (row : Row) (rows : List Row) (w u : Wired) (k : ℕ) → RowFollows l c rest row.group w u
    → ((x : Row) → In x (row ∷ rows) → (length x.names ≡ gates) × ((t : Terminal) → In t x.group → IsSink l w t × (w.class t ≡ k)))
    → AllDifferent (flat_map group_of (row ∷ rows))
    → (x : Row) → In x rows → (length x.names ≡ gates) × ((t : Terminal) → In t x.group → IsSink l u t × (u.class t ≡ k))
after_row l c gates rest row rows w u k r each differ x x_in = (
  (each x (there x_in)).0,
  λ t g.
      let s = (each x (there x_in)).1 t g in
      (r.follows.kept t s.0, r.stays t s.0 (λ h. different_apart row.group (flat_map group_of rows) differ t h (in_rows x rows x_in t g)) ∙ s.1),
)

pub round_follows : (l : Library) (c : Cell) (gates : ℕ) → Repeats l c gates → (rows : List Row) (w : Wired) (k : ℕ) → AreGood l w.instances
    → ((row : Row) → In row rows → (length row.names ≡ gates) × ((t : Terminal) → In t row.group → IsSink l w t × (w.class t ≡ k)))
    → AllDifferent (flat_map group_of rows) → (later : List (List ℕ)) → AreNew c (flat_map (λ r. r.names) rows ++ later) w.instances
    → RoundFollows l c later w (with_round c w k rows)
round_follows l c gates b [] w k good each differ later new = record { follows = follow_itself l w; names = new; good = good }
round_follows l c gates b (row ∷ rows) w k good each differ later new =
    let first = each row here in
    let u = with_group c w k row.names row.group in
    let r = row_follows l c gates b w k row.group good first.1 row.names (flat_map (λ (x : Row). x.names) rows) later first.0 new in
    let after = after_row l c gates (flat_map (λ (x : Row). x.names) rows ++ later) row rows w u k r each differ in
    let rest = round_follows l c gates b rows u k r.good after (different_right row.group (flat_map group_of rows) differ) later r.names in
    record { follows = follow_on l w u (with_round c u k rows) r.follows rest.follows; names = rest.names; good = rest.good }

abbrev pub whole : {A : Type 0} → List (List A) → List A
whole {A} [] = []
whole {A} (g ∷ gs) = g ++ whole gs

-- the groups of a list are the list
pub groups_whole : {A : Type 0} (size : ℕ) (xs : List A) (groups : List (List A)) → AreGroups size xs groups → xs ≡ whole groups
groups_whole size xs groups (last more few) = sym (nil_behind xs) where
  nil_behind : {A : Type 0} (ys : List A) → ys ++ [] ≡ ys
  nil_behind [] = refl
  nil_behind {A} (y ∷ ys) = ap (λ (zs : List A). y ∷ zs) (nil_behind ys)
groups_whole {A} size xs groups (next {xs = ys} {ys = zs} {groups = more} full rest) = ap (λ (x : List A). ys ++ x) (groups_whole size zs more rest)

pub whole_rows : (rows : List Row) → whole (map (λ r. r.group) rows) ≡ flat_map group_of rows
whole_rows [] = refl
whole_rows (row ∷ rows) = ap (λ (x : List Terminal). row.group ++ x) (whole_rows rows)

-- the rows of a round are of sinks of its class
pub rows_sunk : (l : Library) (limit gates class : ℕ) (w : Wired) (rows : List Row) → AreGroups limit (sinks l w class) (map (λ r. r.group) rows) → All (λ r. length r.names ≡ gates) rows
    → (row : Row) → In row rows → (length row.names ≡ gates) × ((t : Terminal) → In t row.group → IsSink l w t × (w.class t ≡ class))
rows_sunk l limit gates class w rows groups many row row_in = (
  All-In (λ (x : Row). length x.names ≡ gates) rows many row row_in,
  λ t g.
      let s = sink_at l w class t (in_groups limit (sinks l w class) (map (λ (x : Row). x.group) rows) groups row.group (In-map (λ (x : Row). x.group) row rows row_in) t g) in
      (sink_of l w class t s, s.class),
)

pub rows_differ : (l : Library) (limit class : ℕ) (w : Wired) (rows : List Row) → AreGood l w.instances → AreGroups limit (sinks l w class) (map (λ r. r.group) rows)
    → AllDifferent (flat_map group_of rows)
rows_differ l limit class w rows good groups =
    subst (λ (ts : List Terminal). AllDifferent ts) (groups_whole limit (sinks l w class) (map (λ (x : Row). x.group) rows) groups ∙ whole_rows rows) (sinks_differ l w good.names good.pins class)

pub limited_follows : (l : Library) (limit : ℕ) (b : Repeater) → Repeats l b.cell b.gates → (names : List (List ℕ)) (w u : Wired) → IsLimited l limit b names w u
    → AreGood l w.instances → AreNew b.cell names w.instances → RoundFollows l b.cell [] w u
limited_follows l limit b repeats names w u (within few) good new = record { follows = follow_itself l w; names = tt; good = good }
limited_follows l limit b repeats names w u (round {later = later} class rows large earlier groups many rest) good new =
    let each = rows_sunk l limit b.gates class w rows groups many in
    let r = round_follows l b.cell b.gates repeats rows w class good each (rows_differ l limit class w rows good groups) later new in
    let f = limited_follows l limit b repeats later (with_round b.cell w class rows) u rest r.good r.names in
    record { follows = follow_on l w (with_round b.cell w class rows) u r.follows f.follows; names = tt; good = f.good }

-- ---- the instances of the given netlist

pub good_instances : (l : Library) (n : InMemory) → IsNetlist n → IsOfCells n l → AreGood l n.instances
good_instances l n is_n of_cells = record {
  names = different_of (map (λ i. i.name) n.instances) is_n.names;
  usable = λ i d h found. let c = of_cells.found i (in_place i n.instances h) in subst (λ (x : Cell). IsUsable x) (same_Some c.0 d (sym c.1 ∙ found)) c.2;
  pins = λ i h. let c = of_cells.found i (in_place i n.instances h) in subst (λ (ns : List Name). AllDifferent ns) (sym c.3) (pin_names_differ c.0 c.2);
}
