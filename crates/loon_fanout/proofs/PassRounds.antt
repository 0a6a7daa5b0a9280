-- Rounds on nets: a netlist whose classes have no fault and that has no ring is still one.
use Rattle.std.proofs.Common.{◌≡◌, ◌≢◌, ◌⊎◌, inl, inr, ℕ, suc, ◌-◌, ◌<◌, ◌≤◌, Bool, true, false, List, [], ◌∷◌, ◌++◌, length, map, refl, sym, ap, ◌∙◌, subst, arith, if◌then◌else◌}
use Rattle.std.specs.Prelude.{nat_lt}
use Rattle.std.specs.List.{flat_map, list_any}
use Rattle.std.proofs.lemmas.Bool.{cases_lt}
use Rattle.std.proofs.lemmas.Bool.Decides.{nat_tests}
use Rattle.vlsi_base.specs.declared.name.Name.{Name}
use Rattle.vlsi_base.specs.declared.name.Terminal.{Terminal}
use Rattle.vlsi_base.specs.Member.{In, here, there, AllDifferent}
use Rattle.cell_model.specs.Cell.{Cell}
use Rattle.cell_model.specs.Library.{Library}
use Rattle.cell_model.proofs.Members.{In-split, In-left, In-right, In-map, All-In}
use Rattle.cell_model.proofs.Texts.{text_differs}
use Rattle.cell_pins.specs.Pins.{all_ports}
use Rattle.cell_pins.specs.Table.{ArePins}
use Rattle.cell_pins.proofs.Sound.{member_at as in_from_place}
use Rattle.net_core.specs.declared.pins.ModelPin.{ModelPin}
use Rattle.net_core.specs.declared.pins.ModelPins.{ModelPins}
use Rattle.net_core.specs.declared.tally.Role.TheVariants as role
use Rattle.net_core.specs.declared.tally.Tally.{Tally}
use Rattle.net_core.specs.Netlist.{Instance, pin_of}
use Rattle.net_core.specs.Checks.{pins_named, pin_role}
use Rattle.loon_fanout.specs.Sinks.{Wired, sinks, is_same_terminal}
use Rattle.loon_fanout.specs.Wired.{pin_class, with_gate, with_moved, with_group}
use Rattle.loon_wiring.specs.Repeaters.{Repeater}
use Rattle.loon_fanout.specs.Limited.{Row, with_round, IsLimited, within, round}
use Rattle.loon_fanout.specs.Laws.{gate_named}
use Rattle.loon_fanout.proofs.Picking.{any_in, different_apart, different_right}
use Rattle.loon_fanout.proofs.Terminals.{terminal_same}
use Rattle.loon_fanout.proofs.Splitting.{sink_at}
use Rattle.loon_fanout.proofs.RightStates.{IsGateCell}
use Rattle.loon_fanout.proofs.RightPins.{own_class, input_class, output_class}
use Rattle.loon_fanout.proofs.RightMove.{IsSink}
use Rattle.loon_fanout.proofs.RightRounds.{AreNew, Repeats, once, twice, in_groups, some_of, sink_of}
use Rattle.loon_fanout.proofs.OneClass.{AreGood, still_good, own_kept, row_follows, round_follows, groups_whole, whole_rows, group_of, sinks_differ}
use Rattle.loon_fanout.proofs.PassLoops.{HasNoLoop, contracted}
use Rattle.net_right.proofs.Tallies.{input_pin}
use Rattle.loon_fanout.proofs.PassTallies.{somewhere, input_pins, IsGood, IsFine}
use Rattle.loon_fanout.proofs.PassPins.{pin_mark, pin_marked, sink_role, sink_pin, role_out, Arc, gate_arc}
use Rattle.loon_fanout.proofs.PassSteps.{all_marks, tally_at, IsSane, gate_keeps, gate_fresh, gate_sane, move_keeps, move_sane}

-- an output pin in one class depends at once on an input pin in the other
pub record Edge (table : List ModelPins) (w : Wired) (c d : ℕ) : Type 0 where
  pub owner : Instance
  pub listed : In owner w.instances
  pub arc : Arc table owner.model
  pub at : w.class (pin_of owner.name arc.output.name) ≡ c
  pub reads : w.class (pin_of owner.name arc.input.name) ≡ d

-- ---- classes put behind class k

-- a step of classes, where those from base on stand behind class k
data Kind (base k : ℕ) (E : ℕ → ℕ → Type 0) (c d : ℕ) : Type 0 where
  old : c < base → d < base → E c d → Kind base k E c d
  moved : c < base → base ≤ d → E c k → Kind base k E c d
  into : base ≤ c → d ≡ k → Kind base k E c d
  between : base ≤ c → base ≤ d → d < c → Kind base k E c d

folded : ℕ → ℕ → ℕ → ℕ
folded base k x = if nat_lt x base then x else k

folded_low : (base k x : ℕ) → x < base → folded base k x ≡ x
unfolding folded
folded_low base k x l = let e : nat_lt x base ≡ true = grind (arith, nat_tests) in ap (λ (b : Bool). if b then x else k) e

folded_high : (base k x : ℕ) → base ≤ x → folded base k x ≡ k
unfolding folded
folded_high base k x l = let e : nat_lt x base ≡ false = grind (arith, nat_tests) in ap (λ (b : Bool). if b then x else k) e

falls : (base k : ℕ) (E F : ℕ → ℕ → Type 0) → k < base → ((c d : ℕ) → F c d → Kind base k E c d) → HasNoLoop E → HasNoLoop F
falls base k E F low each none = contracted E F (folded base k) (λ c d f. by c d (each c d f)) none where
  by : (c d : ℕ) → Kind base k E c d → ((folded base k c ≡ folded base k d) × (d < c)) ⊎ E (folded base k c) (folded base k d)
  by c d (old a b e) = inr (subst (λ (x : ℕ). E x (folded base k d)) (sym (folded_low base k c a)) (subst (λ (y : ℕ). E c y) (sym (folded_low base k d b)) e))
  by c d (moved a b e) = inr (subst (λ (x : ℕ). E x (folded base k d)) (sym (folded_low base k c a)) (subst (λ (y : ℕ). E c y) (sym (folded_high base k d b)) e))
  by c d (into a e) = inl (folded_high base k c a ∙ sym (folded_low base k k low) ∙ ap (folded base k) (sym e), omega (arith, a, e, low))
  by c d (between a b l) = inl (folded_high base k c a ∙ sym (folded_high base k d b), l)

-- ---- a group behind gates

-- no class has a fault, nothing goes round, and class k can be read
pub record Passed (l : Library) (table : List ModelPins) (clocks k : ℕ) (w : Wired) : Type 0 where
  pub sane : IsSane l table clocks w
  pub loops : HasNoLoop (Edge table w)
  pub low : k < w.count
  pub fine : IsFine (tally_at table w k)

module _ (l : Library) (table : List ModelPins) (clocks : ℕ) (w : Wired) (k : ℕ) (p : Passed l table clocks k w) (named : AreGood l w.instances)
    (c : Cell) (b : IsGateCell l c) (row : ArePins c.function (all_ports c) (all_ports c) (pins_named table c.name))
    (group : List Terminal) (each : (t : Terminal) → In t group → IsSink l w t × (w.class t ≡ k)) where
  abbrev is_moved : Terminal → Bool
  is_moved t = list_any (is_same_terminal t) group

  in_group : (t : Terminal) → is_moved t ≡ true → In t group
  in_group t e = let x = any_in (is_same_terminal t) group e in subst (λ (y : Terminal). In y group) (sym (terminal_same t x.0 x.2)) x.1

  pin_below : (i : Instance) (q : ModelPin) → In i w.instances → In q (pins_named table i.model) → w.class (pin_of i.name q.name) < w.count
  pin_below i q a d = p.sane.below (pin_mark i.name q) (pin_marked table w.ports w.instances i q a d)

  -- where old pins keep their classes but for those that are moved
  module _ (v : Wired) (to : ℕ) (behind : w.count ≤ to)
      (class_is : (i : Instance) (pin : Name) → In i w.instances → v.class (pin_of i.name pin) ≡ (if is_moved (pin_of i.name pin) then to else w.class (pin_of i.name pin))) where
    old_kind : (i : Instance) → In i w.instances → (a : Arc table i.model)
        → Kind w.count k (Edge table w) (v.class (pin_of i.name a.output.name)) (v.class (pin_of i.name a.input.name))
    old_kind i i_in a = by (is_moved (pin_of i.name a.input.name)) refl where
      stays : is_moved (pin_of i.name a.output.name) ≡ false
      stays = test (is_moved (pin_of i.name a.output.name)) refl where
        test : (t : Bool) → is_moved (pin_of i.name a.output.name) ≡ t → t ≡ false
        test false e = refl
        test true e =
            let s = (each (pin_of i.name a.output.name) (in_group (pin_of i.name a.output.name) e)).0 in
            let r = sink_role l table w named i i_in (p.sane.made i i_in) a.output a.known s in
            let never : role.InputPin ≡ role.OutputPin = sym r ∙ role_out a.output a.gives in absurd (cc never)

      out : v.class (pin_of i.name a.output.name) ≡ w.class (pin_of i.name a.output.name)
      out = class_is i a.output.name i_in ∙ ap (λ (x : Bool). if x then to else w.class (pin_of i.name a.output.name)) stays

      out_low : v.class (pin_of i.name a.output.name) < w.count
      out_low = let x = pin_below i a.output i_in a.known in omega (arith, x, out)

      by : (t : Bool) → is_moved (pin_of i.name a.input.name) ≡ t → Kind w.count k (Edge table w) (v.class (pin_of i.name a.output.name)) (v.class (pin_of i.name a.input.name))
      by false e =
          let same = class_is i a.input.name i_in ∙ ap (λ (x : Bool). if x then to else w.class (pin_of i.name a.input.name)) e in
          let x = pin_below i a.input i_in (in_from_place (pins_named table i.model) a.place a.input a.stands) in
          old out_low (omega (arith, x, same)) (record { owner = i; listed = i_in; arc = a; at = sym out; reads = sym same })
      by true e =
          let same = class_is i a.input.name i_in ∙ ap (λ (x : Bool). if x then to else w.class (pin_of i.name a.input.name)) e in
          let at_k = (each (pin_of i.name a.input.name) (in_group (pin_of i.name a.input.name) e)).1 in
          moved out_low (omega (arith, same, behind)) (record { owner = i; listed = i_in; arc = a; at = sym out; reads = at_k })

  less_one : (x : ℕ) → suc x - 1 ≡ x
  less_one x = omega arith

  in_one : (x y : Instance) → In y (x ∷ []) → y ≡ x
  in_one x y here = refl
  in_one x y (there g) = elim g [ ]

  sunk : (t : Terminal) → In t group → IsSink l w t
  sunk t g = (each t g).0

  sink_kept : (u : Wired) (name : List ℕ) (m : ℕ) (t : Terminal) → IsSink l u t → IsSink l (with_gate c u m name) t
  sink_kept u name m t s = record {
    owner = s.owner;
    listed = In-left s.owner u.instances (gate_named c name ∷ []) s.listed;
    cell = s.cell;
    found = s.found;
    pin = s.pin;
    input = s.input;
    no_clock = s.no_clock;
    is = s.is;
  }

  apart_class : (u : Wired) (m : ℕ) (name owner : List ℕ) (pin : Name) → owner ≢ name → (with_gate c u m name).class (pin_of owner pin) ≡ u.class (pin_of owner pin)
  apart_class u m name owner pin apart = ap (λ (x : Bool). if x then pin_class u c m pin else u.class (pin_of owner pin)) (text_differs owner name apart)

  moved_class : (u : Wired) (t : Terminal) (to : ℕ) → u.count - 1 ≡ to → (with_moved group u).class t ≡ (if is_moved t then to else u.class t)
  moved_class u t to e = ap (λ (x : ℕ). if is_moved t then x else u.class t) e

  if_same : (t : Bool) (to x y : ℕ) → x ≡ y → (if t then to else x) ≡ (if t then to else y)
  if_same t to x y e = ap (λ (z : ℕ). if t then to else z) e

  one_gate : (name : List ℕ) → ((i : Instance) → In i w.instances → i.name ≢ name) → Passed l table clocks k (with_group c w k (name ∷ []) group)
  one_gate name new_name = record {
    sane = move_sane l table clocks u sane named_u group (λ t g. sink_kept w name k t (sunk t g)) w.count (less_one w.count) (omega arith) fine_to;
    loops = falls w.count k (Edge table w) (Edge table v) p.low kinds p.loops;
    low = let x = p.low in omega (arith, x);
    fine = move_keeps l table clocks u sane named_u group (λ t g. sink_kept w name k t (sunk t g)) w.count (less_one w.count) (omega arith) fine_to k
        (gate_keeps l table clocks w p.sane c b row name new_name k p.low p.fine k p.fine);
  } where
    u : Wired
    u = with_gate c w k name

    v : Wired
    v = with_moved group (with_gate c w k name)

    sane : IsSane l table clocks (with_gate c w k name)
    sane = gate_sane l table clocks w p.sane c b row name new_name k p.low p.fine

    named_u : AreGood l (w.instances ++ gate_named c name ∷ [])
    named_u = still_good l w.instances c b name new_name named

    fine_to : IsFine (tally_at table (with_gate c w k name) w.count)
    fine_to = gate_fresh l table clocks w p.sane c b row name new_name k p.low p.fine

    class_is : (i : Instance) (pin : Name) → In i w.instances
        → (with_moved group (with_gate c w k name)).class (pin_of i.name pin) ≡ (if is_moved (pin_of i.name pin) then w.count else w.class (pin_of i.name pin))
    class_is i pin i_in =
        moved_class (with_gate c w k name) (pin_of i.name pin) w.count (less_one w.count)
        ∙ if_same (is_moved (pin_of i.name pin)) w.count ((with_gate c w k name).class (pin_of i.name pin)) (w.class (pin_of i.name pin)) (apart_class w k name i.name pin (new_name i i_in))

    own : (pin : Name) (d : ℕ) → pin_class w c k pin ≡ d → (with_moved group (with_gate c w k name)).class (pin_of name pin) ≡ d
    own pin d e = own_kept l w (with_gate c w k name) group sunk name pin new_name ∙ own_class c w name k pin ∙ e

    new_kind : (i : Instance) → i ≡ gate_named c name → (a : Arc table i.model)
        → Kind w.count k (Edge table w) ((with_moved group (with_gate c w k name)).class (pin_of i.name a.output.name)) ((with_moved group (with_gate c w k name)).class (pin_of i.name a.input.name))
    new_kind i e = subst (λ (x : Instance). (a : Arc table x.model)
        → Kind w.count k (Edge table w) ((with_moved group (with_gate c w k name)).class (pin_of x.name a.output.name)) ((with_moved group (with_gate c w k name)).class (pin_of x.name a.input.name)))
        (sym e) (λ a.
        let g = gate_arc l table c b row a in
        let x = own a.output.name w.count (ap (pin_class w c k) g.0 ∙ output_class l c b w k) in
        let y = own a.input.name k (ap (pin_class w c k) g.1 ∙ input_class l c b w k) in
        into (omega (arith, x)) y)

    kinds : (x y : ℕ) → Edge table (with_moved group (with_gate c w k name)) x y → Kind w.count k (Edge table w) x y
    kinds x y e = subst (λ (z : ℕ). Kind w.count k (Edge table w) z y) e.at
        (subst (λ (z : ℕ). Kind w.count k (Edge table w) ((with_moved group (with_gate c w k name)).class (pin_of e.owner.name e.arc.output.name)) z) e.reads
        (elim (In-split e.owner w.instances (gate_named c name ∷ []) e.listed) [
          | inl i ↦ old_kind (with_moved group (with_gate c w k name)) w.count (omega arith) class_is e.owner i e.arc
          | inr i ↦ new_kind e.owner (in_one (gate_named c name) e.owner i) e.arc
        ]))

  module _ (first second : List ℕ) (new_first : (i : Instance) → In i w.instances → i.name ≢ first) (new_second : (i : Instance) → In i (w.instances ++ gate_named c first ∷ []) → i.name ≢ second) where
    abbrev u1 : Wired
    u1 = with_gate c w k first

    abbrev u2 : Wired
    u2 = with_gate c u1 w.count second

    abbrev u3 : Wired
    u3 = with_moved group u2

    old_second : (i : Instance) → In i w.instances → i.name ≢ second
    old_second i h = new_second i (In-left i w.instances (gate_named c first ∷ []) h)

    apart_two : first ≢ second
    apart_two = new_second (gate_named c first) (In-right (gate_named c first) w.instances (gate_named c first ∷ []) here)

    sane_1 : IsSane l table clocks u1
    sane_1 = gate_sane l table clocks w p.sane c b row first new_first k p.low p.fine

    fine_1 : IsFine (tally_at table u1 w.count)
    fine_1 = gate_fresh l table clocks w p.sane c b row first new_first k p.low p.fine

    low_1 : w.count < u1.count
    low_1 = omega arith

    sane_2 : IsSane l table clocks u2
    sane_2 = gate_sane l table clocks u1 sane_1 c b row second new_second w.count low_1 fine_1

    fine_2 : IsFine (tally_at table u2 u1.count)
    fine_2 = gate_fresh l table clocks u1 sane_1 c b row second new_second w.count low_1 fine_1

    fine_k : IsFine (tally_at table u2 k)
    fine_k = gate_keeps l table clocks u1 sane_1 c b row second new_second w.count low_1 fine_1 k
        (gate_keeps l table clocks w p.sane c b row first new_first k p.low p.fine k p.fine)

    named_2 : AreGood l u2.instances
    named_2 = still_good l u1.instances c b second new_second (still_good l w.instances c b first new_first named)

    sunk_2 : (t : Terminal) → In t group → IsSink l u2 t
    sunk_2 t g = sink_kept u1 second w.count t (sink_kept w first k t (sunk t g))

    low_to : u1.count < u2.count
    low_to = omega arith

    class_is_two : (i : Instance) (pin : Name) → In i w.instances → u3.class (pin_of i.name pin) ≡ (if is_moved (pin_of i.name pin) then u1.count else w.class (pin_of i.name pin))
    class_is_two i pin i_in =
        moved_class u2 (pin_of i.name pin) u1.count (less_one u1.count)
        ∙ if_same (is_moved (pin_of i.name pin)) u1.count (u2.class (pin_of i.name pin)) (w.class (pin_of i.name pin))
        (apart_class u1 w.count second i.name pin (old_second i i_in) ∙ apart_class w k first i.name pin (new_first i i_in))

    own_first : (pin : Name) (d : ℕ) → pin_class w c k pin ≡ d → u3.class (pin_of first pin) ≡ d
    own_first pin d e = own_kept l w u2 group sunk first pin new_first ∙ apart_class u1 w.count second first pin apart_two ∙ own_class c w first k pin ∙ e

    own_second : (pin : Name) (d : ℕ) → pin_class u1 c w.count pin ≡ d → u3.class (pin_of second pin) ≡ d
    own_second pin d e = own_kept l w u2 group sunk second pin old_second ∙ own_class c u1 second w.count pin ∙ e

    kind_first : (a : Arc table c.name) → Kind w.count k (Edge table w) (u3.class (pin_of first a.output.name)) (u3.class (pin_of first a.input.name))
    kind_first a =
        let g = gate_arc l table c b row a in
        let x = own_first a.output.name w.count (ap (pin_class w c k) g.0 ∙ output_class l c b w k) in
        let y = own_first a.input.name k (ap (pin_class w c k) g.1 ∙ input_class l c b w k) in
        into (omega (arith, x)) y

    kind_second : (a : Arc table c.name) → Kind w.count k (Edge table w) (u3.class (pin_of second a.output.name)) (u3.class (pin_of second a.input.name))
    kind_second a =
        let g = gate_arc l table c b row a in
        let x = own_second a.output.name u1.count (ap (pin_class u1 c w.count) g.0 ∙ output_class l c b u1 w.count) in
        let y = own_second a.input.name w.count (ap (pin_class u1 c w.count) g.1 ∙ input_class l c b u1 w.count) in
        between (omega (arith, x)) (omega (arith, y)) (omega (arith, x, y))

    new_two : (name : List ℕ) → ((a : Arc table c.name) → Kind w.count k (Edge table w) (u3.class (pin_of name a.output.name)) (u3.class (pin_of name a.input.name)))
        → (i : Instance) → i ≡ gate_named c name → (a : Arc table i.model) → Kind w.count k (Edge table w) (u3.class (pin_of i.name a.output.name)) (u3.class (pin_of i.name a.input.name))
    new_two name h i e = subst (λ (x : Instance). (a : Arc table x.model)
        → Kind w.count k (Edge table w) (u3.class (pin_of x.name a.output.name)) (u3.class (pin_of x.name a.input.name))) (sym e) h

    kinds_two : (x y : ℕ) → Edge table u3 x y → Kind w.count k (Edge table w) x y
    kinds_two x y e = subst (λ (z : ℕ). Kind w.count k (Edge table w) z y) e.at
        (subst (λ (z : ℕ). Kind w.count k (Edge table w) (u3.class (pin_of e.owner.name e.arc.output.name)) z) e.reads
        (elim (In-split e.owner (w.instances ++ gate_named c first ∷ []) (gate_named c second ∷ []) e.listed) [
          | inr i ↦ new_two second kind_second e.owner (in_one (gate_named c second) e.owner i) e.arc
          | inl j ↦ elim (In-split e.owner w.instances (gate_named c first ∷ []) j) [
            | inl i ↦ old_kind u3 u1.count (omega arith) class_is_two e.owner i e.arc
            | inr i ↦ new_two first kind_first e.owner (in_one (gate_named c first) e.owner i) e.arc
          ]
        ]))

    two_gates : Passed l table clocks k u3
    two_gates = record {
      sane = move_sane l table clocks u2 sane_2 named_2 group sunk_2 u1.count (less_one u1.count) low_to fine_2;
      loops = falls w.count k (Edge table w) (Edge table u3) p.low kinds_two p.loops;
      low = let x = p.low in omega (arith, x);
      fine = move_keeps l table clocks u2 sane_2 named_2 group sunk_2 u1.count (less_one u1.count) low_to fine_2 k fine_k;
    }

row_passes : (l : Library) (table : List ModelPins) (clocks : ℕ) (c : Cell) (gates : ℕ) → Repeats l c gates → ArePins c.function (all_ports c) (all_ports c) (pins_named table c.name)
    → (w : Wired) (k : ℕ) → Passed l table clocks k w → AreGood l w.instances → (group : List Terminal) → ((t : Terminal) → In t group → IsSink l w t × (w.class t ≡ k))
    → (names others later : List (List ℕ)) → length names ≡ gates → AreNew c ((names ++ others) ++ later) w.instances → Passed l table clocks k (with_group c w k names group)
row_passes l table clocks c gates (once b gives) row w k p named group each [] others later many new = absurd (omega (arith, many))
row_passes l table clocks c gates (once b gives) row w k p named group each (x ∷ y ∷ names) others later many new = absurd (omega (arith, many))
row_passes l table clocks c gates (once b gives) row w k p named group each (x ∷ []) others later many new = one_gate l table clocks w k p named c b row group each x new.1
row_passes l table clocks c gates (twice b inverts) row w k p named group each [] others later many new = absurd (omega (arith, many))
row_passes l table clocks c gates (twice b inverts) row w k p named group each (x ∷ []) others later many new = absurd (omega (arith, many))
row_passes l table clocks c gates (twice b inverts) row w k p named group each (x ∷ y ∷ z ∷ names) others later many new = absurd (omega (arith, many))
row_passes l table clocks c gates (twice b inverts) row w k p named group each (x ∷ y ∷ []) others later many new =
    two_gates l table clocks w k p named c b row group each x y new.1 new.2.1

-- ---- rounds

in_rows : (x : Row) (rows : List Row) → In x rows → (t : Terminal) → In t x.group → In t (flat_map group_of rows)
in_rows x [] h t g = elim h [ ]
in_rows x (y ∷ ys) here t g = In-left t y.group (flat_map group_of ys) g
in_rows x (y ∷ ys) (there h) t g = In-right t y.group (flat_map group_of ys) (in_rows x ys h t g)

round_passes : (l : Library) (table : List ModelPins) (clocks : ℕ) (c : Cell) (gates : ℕ) → Repeats l c gates → ArePins c.function (all_ports c) (all_ports c) (pins_named table c.name)
    → (rows : List Row) (w : Wired) (k : ℕ) → Passed l table clocks k w → AreGood l w.instances
    → ((row : Row) → In row rows → (length row.names ≡ gates) × ((t : Terminal) → In t row.group → IsSink l w t × (w.class t ≡ k)))
    → AllDifferent (flat_map group_of rows) → (later : List (List ℕ)) → AreNew c (flat_map (λ r. r.names) rows ++ later) w.instances
    → Passed l table clocks k (with_round c w k rows)
round_passes l table clocks c gates b pins [] w k p good each differ later new = p
round_passes l table clocks c gates b pins (row ∷ rows) w k p good each differ later new =
    let first = each row here in
    let u = with_group c w k row.names row.group in
    let r = row_follows l c gates b w k row.group good first.1 row.names (flat_map (λ (x : Row). x.names) rows) later first.0 new in
    let after : (x : Row) → In x rows → (length x.names ≡ gates) × ((t : Terminal) → In t x.group → IsSink l u t × (u.class t ≡ k)) = λ x x_in. (
      (each x (there x_in)).0,
      λ t g.
          let s = (each x (there x_in)).1 t g in
          (r.follows.kept t s.0, r.stays t s.0 (λ h. different_apart row.group (flat_map group_of rows) differ t h (in_rows x rows x_in t g)) ∙ s.1),
    ) in
    round_passes l table clocks c gates b pins rows u k
    (row_passes l table clocks c gates b pins w k p good row.group first.1 row.names (flat_map (λ (x : Row). x.names) rows) later first.0 new)
    r.good after (different_right row.group (flat_map group_of rows) differ) later r.names

-- a class with an input pin has a driver and no clock pins
pub read_is_fine : (clocks : ℕ) (t : Tally) → IsGood clocks t → 1 ≤ t.input_pins → IsFine t
read_is_fine clocks t g some = record { driven = g.driven (omega (arith, some)); no_clock = by (cases_lt 0 t.clock_pins) } where
  by : (0 < t.clock_pins) ⊎ (t.clock_pins ≤ 0) → t.clock_pins ≡ 0
  by (inl x) = let e = (g.clock (omega (arith, x))).3 in absurd (omega (arith, e, some))
  by (inr x) = omega (arith, x)

-- so has a class with sinks
crowd_passes : (l : Library) (table : List ModelPins) (clocks : ℕ) (w : Wired) → IsSane l table clocks w → HasNoLoop (Edge table w) → AreGood l w.instances → (k n : ℕ) → n < length (sinks l w k)
    → Passed l table clocks k w
crowd_passes l table clocks w s loops good k n many =
    let t = some_of n (sinks l w k) many in
    let x = sink_at l w k t.0 t.1 in
    let sink = sink_of l w k t.0 x in
    let q = sink_pin l table w s.made t.0 sink in
    let m_in : In (pin_mark sink.owner.name q.0) (all_marks table w) = pin_marked table w.ports w.instances sink.owner q.0 sink.listed q.1 in
    let class : w.class (pin_of sink.owner.name q.0.name) ≡ k = ap w.class (sym q.2) ∙ x.class in
    let does : pin_role q.0 ≡ role.InputPin = sink_role l table w good sink.owner sink.listed (s.made sink.owner sink.listed) q.0 q.1 (subst (λ (y : Terminal). IsSink l w y) q.2 sink) in
    let one : input_pin (pin_role q.0) ≡ 1 = ap input_pin does in
    let r = somewhere (λ t. t.input_pins) input_pin input_pins w.class (all_marks table w) k (pin_mark sink.owner.name q.0) m_in class in
    let low = s.below (pin_mark sink.owner.name q.0) m_in in
    record {
      sane = s;
      loops = loops;
      low = omega (arith, low, class);
      fine = read_is_fine clocks (tally_at table w k) (s.good k) (omega (arith, r, one));
    }

pub record Limits (l : Library) (table : List ModelPins) (clocks : ℕ) (w : Wired) : Type 0 where
  pub sane : IsSane l table clocks w
  pub loops : HasNoLoop (Edge table w)

pub limited_passes : (l : Library) (table : List ModelPins) (clocks limit : ℕ) (b : Repeater) → Repeats l b.cell b.gates
    → ArePins b.cell.function (all_ports b.cell) (all_ports b.cell) (pins_named table b.cell.name)
    → (names : List (List ℕ)) (w u : Wired) → IsLimited l limit b names w u → Limits l table clocks w → AreGood l w.instances → AreNew b.cell names w.instances → Limits l table clocks u
limited_passes l table clocks limit b repeats pins names w u (within few) p good new = p
limited_passes l table clocks limit b repeats pins names w u (round {later = later} class rows large earlier groups many rest) p good new =
    let each : (row : Row) → In row rows → (length row.names ≡ b.gates) × ((t : Terminal) → In t row.group → IsSink l w t × (w.class t ≡ class)) = λ row row_in. (
      All-In (λ (x : Row). length x.names ≡ b.gates) rows many row row_in,
      λ t g.
          let s = sink_at l w class t (in_groups limit (sinks l w class) (map (λ (x : Row). x.group) rows) groups row.group (In-map (λ (x : Row). x.group) row rows row_in) t g) in
          (sink_of l w class t s, s.class),
    ) in
    let differ = subst (λ (ts : List Terminal). AllDifferent ts) (groups_whole limit (sinks l w class) (map (λ (x : Row). x.group) rows) groups ∙ whole_rows rows) (sinks_differ l w good.names good.pins class) in
    let r = round_follows l b.cell b.gates repeats rows w class good each differ later new in
    let q = round_passes l table clocks b.cell b.gates repeats pins rows w class (crowd_passes l table clocks w p.sane p.loops good class limit large) good each differ later new in
    limited_passes l table clocks limit b repeats pins later (with_round b.cell w class rows) u rest (record { sane = q.sane; loops = q.loops }) r.good r.names
