-- Nets with many sinks put behind buffers: what the call gives.
use Rattle.std.proofs.Common.{◌≡◌, ◌↔◌, inl, inr, ℕ, zero, suc, ◌+◌, ◌*◌, ◌^◌, ◌<◌, ◌≤◌, Bool, true, false, List, [], ◌∷◌, ◌++◌, map, length, Option, None, Some, pos, refl, sym, ◌∙◌, ap, subst, arith, append-nil, length-append}
use Rattle.std.specs.Global.{Vec}
use Rattle.std.specs.List.{flat_map}
use Rattle.std.specs.Prelude.{IsTrue, IfSome, IfNone}
use Rattle.vlsi_base.specs.declared.name.Name.{Name}
use Rattle.vlsi_base.specs.declared.name.Port.{Port}
use Rattle.vlsi_base.specs.declared.name.Terminal.{Terminal}
use Rattle.vlsi_base.specs.Names.{vdd, vss}
use Rattle.vlsi_base.specs.Member.{In, AllDifferent}
use Rattle.machine_core.specs.Machine.{names_of}
use Rattle.cell_model.specs.Cell.{Cell, pin_ports, opaque}
use Rattle.cell_model.specs.Library.{Library, cell_of, IsUsable}
use Rattle.cell_model.proofs.Members.{All-In, In-split, In-map, In-map_back}
use Rattle.cell_checks.specs.Checked.{IsChecked, library_of}
use Rattle.cell_pins.specs.Pins.{supply, all_ports}
use Rattle.cell_pins.proofs.Sound.{member_at}
use Rattle.net_core.specs.Netlist.{Instance, Netlist as InMemory, IsNetlist, AreInOrder, port, pins_of, terminals_of, terminals}
use Rattle.net_core.specs.Places.{Stands}
use Rattle.net_core.proofs.Finishing.{netlist_terminals_once}
use Rattle.net_right.proofs.Ports.{vdd_there}
use Rattle.text_names.specs.Laws.{TextsAreFree}
use Rattle.net_theory.proofs.Basics.{length-map}
use Rattle.net_right.proofs.Lists.{in_place}
use Rattle.loon_wiring.specs.declared.repeater.Repeater.{Repeater as Parts}
use Rattle.loon_wiring.specs.declared.wiring.Wiring.{Wiring}
use Rattle.loon_fanout.specs.Sinks.{Wired, all_sinks, sinks, wired_of}
use Rattle.loon_wiring.specs.Repeaters.{Repeater, IsRepeater, buffer, inverters, NoneRepeats}
use Rattle.loon_fanout.specs.Building.{gate_by}
use Rattle.loon_fanout.specs.Gated.{gate_names, gated, IsGatable, IsGated}
use Rattle.loon_fanout.specs.Laws.{gate_named, StaysBeside}
use Rattle.loon_fanout.specs.Limited.{IsLimited, within, IsCrowded, IsBuffered, HasFanout, HasFewGates, IsOfCells, HasRoomForGates}
use Rattle.loon_loads.specs.Loads.{all_marks, AreNetLoads}
use Rattle.loon_wiring.specs.Stages.{tie_of, LimitsAll, IsPart, IsRepeaterOf}
use Rattle.loon_fanout.specs.Starts.{IsStart, HasLongLoad}
use Rattle.loon_fanout.proofs.Picking.{map_same, different_of, at_many}
use Rattle.loon_fanout.proofs.Gates.{Chosen, chosen}
use Rattle.loon_fanout.proofs.Kept.{limited_stays_beside}
use Rattle.loon_fanout.proofs.Sinking.{all_terminals}
use Rattle.loon_fanout.proofs.Following.{Follows, none_behind}
use Rattle.loon_fanout.proofs.Rounds.{below_or, gates_in, AllDone, all_done}
use Rattle.loon_fanout.proofs.Starting.{start_high, start_low, follows_start, load_is, left_start}
use Rattle.loon_fanout.proofs.Counted.{counted, loads_few, sinks_few}
use Rattle.loon_fanout.proofs.Gating.{can_gate, is_of, instances_few, has_fanout, names_apart}

by_room : (k : ℕ) → 32 * k < 2 ^ 32 → k < 2 ^ 32
by_room k h = omega (arith, h)

room_sum : (g i k : ℕ) → g ≤ 4 * k → i ≤ k → 32 * k < 2 ^ 32 → g + i < 2 ^ 32
room_sum g i k a b h = omega (arith, a, b, h)

room_pins : (p k : ℕ) → p ≤ 17 * k → 32 * k < 2 ^ 32 → p < 2 ^ 32
room_pins p k a h = omega (arith, a, h)

wide : (k : ℕ) → k < 2 ^ 32 → k < 2 ^ 64
wide k h = omega (arith, h)

-- ---- crowded nets

not_behind : (l : Library) (n : InMemory) (v : Wiring) → IsNetlist n → IsOfCells n l → IsStart n v → (k : ℕ) → n.count ≤ k → sinks l (wired_of n) k ≡ []
not_behind l n v sound cells start k over =
    none_behind l [] v (wired_of n) (follows_start l [] n v sound cells start
    (subst (λ (ns : List (List ℕ)). AllDifferent ns) (sym (append-nil (map (λ (i : Instance). i.name) n.instances))) (different_of (map (λ (i : Instance). i.name) n.instances) sound.names))) k over

get_stands : {A : Type 0} (xs : List A) (k : ℕ) → k < length xs → (x : A) × Stands xs k x
get_stands [] k low = absurd (omega (arith, low))
get_stands (x ∷ xs) zero low = (x, refl)
get_stands (x ∷ xs) (suc k) low = get_stands xs k (omega (arith, low))

load_at : (l : Library) (n : InMemory) (v : Wiring) (loads : List (Vec ℕ)) → IsNetlist n → IsStart n v → AreNetLoads (all_marks l n) n.classes n.count v.high v.low loads
    → (k : ℕ) (places : Vec ℕ) → Stands loads k places → length places.items ≡ length (sinks l (wired_of n) k)
load_at l n v loads sound start are k places at =
    at_many (terminals n) places.items (sinks l (wired_of n) k)
    (load_is l n loads sound v.high v.low (start_high n v sound start) (start_low n v sound start) are k places at)

pub long_crowded : (l : Library) (limit : ℕ) (n : InMemory) (v : Wiring) (loads : List (Vec ℕ)) → IsNetlist n → IsStart n v
    → AreNetLoads (all_marks l n) n.classes n.count v.high v.low loads → HasLongLoad limit loads → IsCrowded l limit n
long_crowded l limit n v loads sound start are (k, places, at, long) = (k, let m = load_at l n v loads sound start are k places at in omega (arith, m, long))

pub crowded_long : (l : Library) (limit : ℕ) (n : InMemory) (v : Wiring) (loads : List (Vec ℕ)) → IsNetlist n → IsOfCells n l → IsStart n v
    → AreNetLoads (all_marks l n) n.classes n.count v.high v.low loads → IsCrowded l limit n → HasLongLoad limit loads
crowded_long l limit n v loads sound cells start are (k, long) = elim (below_or k n.count) [
  | inl low ↦
      let many = are.many in
      let at = get_stands loads k (omega (arith, low, many)) in
      (k, at.0, at.1, let m = load_at l n v loads sound start are k at.0 at.1 in omega (arith, m, long))
  | inr over ↦ absurd (let e = ap length (not_behind l n v sound cells start k over) in omega (arith, e, long))
]

-- ---- what is built

-- a netlist of classes by terminals, from the given one
pub record Built (l : Library) (n : InMemory) (r : Option Parts) (v : Wiring) (limit : ℕ) (w : Wired) : Type 0 where
  pub follows : Follows l [] v w
  pub ports : w.ports ≡ n.ports
  pub instances : w.instances ≡ gated n r v
  pub few : (class : ℕ) → length (sinks l w class) ≤ limit
  pub cells : (i : Instance) → In i w.instances → (c : Cell) × (cell_of l i.model ≡ Some c) × IsUsable c × (i.pins ≡ names_of (all_ports c))
  pub order : (i : Instance) → In i w.instances → AreInOrder i.pins
  pub pins : length (all_terminals w) < 2 ^ 32
  pub gates : length v.reads.items < 2 ^ 32
  pub ports_order : AreInOrder (map (λ p. p.name) n.ports)

some_pin : (c : Cell) (pins : List Name) → pins ≡ names_of (all_ports c) → 0 < length pins
some_pin c pins is = by pins (subst (λ (ns : List Name). In vdd ns) (sym is) (In-map (λ (p : Port). p.name) (supply vdd) (all_ports c) (vdd_there (pin_ports c)))) where
  by : (ns : List Name) → In vdd ns → 0 < length ns
  by [] i = elim i [ ]
  by (n ∷ ns) i = omega arith

pub built_gatable : (l : Library) (n : InMemory) (r : Option Parts) (v : Wiring) (limit : ℕ) (w : Wired) → Built l n r v limit w → IsGatable n r v
built_gatable l n r v limit w b =
    can_gate l n r v w b.follows b.ports b.instances b.ports_order (λ i k. (b.order i k, let c = b.cells i k in some_pin c.0 i.pins c.3)) b.pins b.gates

-- what is built has these terminals
built_terminals : (l : Library) (n : InMemory) (r : Option Parts) (v : Wiring) (limit : ℕ) (w : Wired) (k : InMemory) → Built l n r v limit w → IsGated n r v k → all_terminals w ≡ terminals k
built_terminals l n r v limit w k b g =
    ap (λ (ps : List Port). terminals_of ps w.instances) (b.ports ∙ sym g.ports) ∙ ap (terminals_of k.ports) (b.instances ∙ sym g.instances)

pub built_fanout : (l : Library) (n : InMemory) (r : Option Parts) (v : Wiring) (limit : ℕ) (w : Wired) (k : InMemory) → Built l n r v limit w → IsGated n r v k → IsNetlist k → HasFanout l limit k
built_fanout l n r v limit w k b g sound =
    let listed = built_terminals l n r v limit w k b g in
    has_fanout l limit k w (is_of l n r v w b.follows b.ports b.instances k g) sound (netlist_terminals_once k sound) b.few
    (subst (λ (ts : List Terminal). In (port vdd) ts) listed b.follows.on_vdd) (subst (λ (ts : List Terminal). In (port vss) ts) listed b.follows.on_vss)

pub built_cells : (l : Library) (n : InMemory) (r : Option Parts) (v : Wiring) (limit : ℕ) (w : Wired) (k : InMemory) → Built l n r v limit w → IsGated n r v k → IsOfCells k l
built_cells l n r v limit w k b g = record {
  found = λ i there_i. b.cells i (subst (λ (is : List Instance). In i is) (g.instances ∙ sym b.instances) (member_at k.instances there_i.0 i there_i.1));
  on_vdd = in_place (port vdd) (terminals k) (subst (λ (ts : List Terminal). In (port vdd) ts) listed b.follows.on_vdd);
  on_vss = in_place (port vss) (terminals k) (subst (λ (ts : List Terminal). In (port vss) ts) listed b.follows.on_vss);
} where
  listed : all_terminals w ≡ terminals k
  listed = built_terminals l n r v limit w k b g

-- ---- no gates

different_names : (n : InMemory) → IsNetlist n → AllDifferent (map (λ i. i.name) n.instances ++ [])
different_names n sound =
    subst (λ (ns : List (List ℕ)). AllDifferent ns) (sym (append-nil (map (λ (i : Instance). i.name) n.instances))) (different_of (map (λ (i : Instance). i.name) n.instances) sound.names)

given_cells : (l : Library) (n : InMemory) → IsOfCells n l → (i : Instance) → In i n.instances → (c : Cell) × (cell_of l i.model ≡ Some c) × IsUsable c × (i.pins ≡ names_of (all_ports c))
given_cells l n cells i k = let s = in_place i n.instances k in cells.found i s

pub start_built : (l : Library) (n : InMemory) (v : Wiring) (limit : ℕ) → IsNetlist n → IsOfCells n l → HasRoomForGates n → IsStart n v
    → ((class : ℕ) → length (sinks l (wired_of n) class) ≤ limit) → Built l n None v limit (wired_of n)
start_built l n v limit sound cells room start few = record {
  follows = follows_start l [] n v sound cells start (different_names n sound);
  ports = refl;
  instances = sym (append-nil n.instances);
  few = few;
  cells = λ i k. given_cells l n cells i k;
  order = λ i k. All-In (λ (x : Instance). AreInOrder x.pins) n.instances sound.pins i k;
  pins = by_room (length (terminals n)) room;
  gates = let e = ap length start.reads in omega (arith, e);
  ports_order = sound.ports;
}

-- ---- with gates

gate_same : (c : Cell) (r : Parts) (gates : ℕ) → IsPart c gates r → (name : List ℕ) → gate_named c name ≡ gate_by r name
gate_same c r gates part name =
    let made : List ℕ → List Name → Instance = λ m ps. record { name = name; model = m; pins = ps } in
    ap (λ (m : List ℕ). made m (names_of (all_ports c))) (sym part.model) ∙ ap (made r.model) (sym part.pins)

pub record LimitedBuilt (l : Library) (n : InMemory) (r : Parts) (u : Wiring) (limit : ℕ) (b : Repeater) : Type 0 where
  pub wired : Wired
  pub named : length (gate_names n (gates_in u)) ≡ gates_in u
  pub limited : IsLimited l limit b (gate_names n (gates_in u)) (wired_of n) wired
  pub built : Built l n (Some r) u limit wired
  pub fewer : 4 ≤ limit → gates_in u ≤ length (all_sinks l n.instances)

none_left : {A : Type 0} (xs : List A) → length xs ≡ 0 → xs ≡ []
none_left [] h = refl
none_left (x ∷ xs) h = absurd (omega (arith, h))

module _ (law : TextsAreFree) (l : Library) (n : InMemory) (limit : ℕ) (size : 2 ≤ limit) (sound : IsNetlist n) (cells : IsOfCells n l) (room : HasRoomForGates n) (checked : IsChecked false l)
    (b : Repeater) (rep : IsRepeater l.cells b) (r : Parts) (part : IsPart b.cell b.gates r) (v u : Wiring) (start : IsStart n v) (loads : List (Vec ℕ))
    (are : AreNetLoads (all_marks l n) n.classes n.count v.high v.low loads) (h : LimitsAll r limit 0 loads v u) where
  ch : Chosen l b
  ch = chosen l b checked rep

  abbrev names : List (List ℕ)
  names = gate_names n (gates_in u)

  few_ties : length r.ties.items ≤ 4
  few_ties = let a = ap length part.ties in let m = length-map tie_of (all_ports b.cell) in let f = ch.fits.few in omega (arith, a, m, f)

  few_gates : gates_in u ≤ 4 * length (terminals n)
  few_gates =
      let a = (counted r limit 0 size few_ties loads v u h).gates in
      let t = loads_few l n v.high v.low loads are in
      let p = sinks_few l n.instances in
      let m = length-append (map (λ (q : Port). port q.name) n.ports) (flat_map pins_of n.instances) in
      let z = ap length start.reads in
      omega (arith, a, t, p, m, z)

  few_pins : length u.classes.items ≤ 17 * length (terminals n)
  few_pins =
      let a = (counted r limit 0 size few_ties loads v u h).pins in
      let g = few_gates in
      let e = sound.each in
      let z = ap length start.classes in
      omega (arith, a, g, e, z)

  few_instances : length n.instances ≤ length (terminals n)
  few_instances =
      let a = instances_few n.instances (λ i k. let c = given_cells l n cells i k in some_pin c.0 i.pins c.3) in
      let m = length-append (map (λ (p : Port). port p.name) n.ports) (flat_map pins_of n.instances) in
      omega (arith, a, m)

  few_all : gates_in u + length n.instances < 2 ^ 32
  few_all = room_sum (gates_in u) (length n.instances) (length (terminals n)) few_gates few_instances room

  apart : AllDifferent (map (λ i. i.name) n.instances ++ names) × (length names ≡ gates_in u)
  apart = names_apart law n (gates_in u) sound (wide (gates_in u + length n.instances) few_all)

  follows : Follows l names v (wired_of n)
  follows = follows_start l names n v sound cells start apart.0

  d : AllDone l limit b names v u (wired_of n)
  d = all_done l b ch.input ch.fits r part limit (omega (arith, size)) 0 loads names v u (wired_of n) h follows (left_start l limit names n v loads sound are follows)
      (let m = apart.1 in omega (arith, m))

  no_later : d.later ≡ []
  no_later = none_left d.later
      (let a = ap length d.parts in let m = length-append d.used d.later in let k = apart.1 in let e = d.counted in let z = ap length start.reads in omega (arith, a, m, k, e, z))

  all_used : d.used ≡ names
  all_used = sym (append-nil d.used) ∙ ap (λ (ns : List (List ℕ)). d.used ++ ns) (sym no_later) ∙ sym d.parts

  limited : IsLimited l limit b names (wired_of n) d.end
  limited = subst (λ (ns : List (List ℕ)). IsLimited l limit b ns (wired_of n) d.end) all_used d.limited

  at_end : Follows l [] u d.end
  at_end = subst (λ (ns : List (List ℕ)). Follows l ns u d.end) no_later d.follows

  beside : StaysBeside l limit b names (wired_of n) d.end
  beside = limited_stays_beside l limit b names (wired_of n) d.end limited

  -- an instance is a given one or a gate
  each_instance : (P : Instance → Type 0) → ((i : Instance) → In i n.instances → P i) → ((name : List ℕ) → P (gate_named b.cell name)) → (i : Instance) → In i d.end.instances → P i
  each_instance P old new i k = elim (In-split i n.instances (map (gate_named b.cell) names) (subst (λ (is : List Instance). In i is) beside.instances k)) [
    | inl a ↦ old i a
    | inr g ↦ let x = In-map_back (gate_named b.cell) i names g in subst P x.2 (new x.0)
  ]

  pub limited_built : LimitedBuilt l n r u limit b
  limited_built = record {
    wired = d.end;
    named = apart.1;
    limited = limited;
    fewer = λ four.
        let a = (counted r limit 0 size few_ties loads v u h).fewer four in
        let t = loads_few l n v.high v.low loads are in
        let z = ap length start.reads in
        omega (arith, a, t, z);
    built = record {
      follows = at_end;
      ports = beside.ports;
      instances = beside.instances ∙ ap (λ (is : List Instance). n.instances ++ is) (map_same (gate_named b.cell) (gate_by r) names (λ name i. gate_same b.cell r b.gates part name));
      few = beside.few;
      cells = each_instance (λ i. (c : Cell) × (cell_of l i.model ≡ Some c) × IsUsable c × (i.pins ≡ names_of (all_ports c)))
          (λ i k. given_cells l n cells i k) (λ name. (b.cell, ch.fits.found, ch.fits.usable, refl));
      order = each_instance (λ i. AreInOrder i.pins) (λ i k. All-In (λ (x : Instance). AreInOrder x.pins) n.instances sound.pins i k) (λ name. ch.fits.order);
      pins = let a = ap length at_end.classes in let m = length-map d.end.class (all_terminals d.end) in
          room_pins (length (all_terminals d.end)) (length (terminals n)) (let f = few_pins in omega (arith, a, m, f)) room;
      gates = let f = few_all in omega (arith, f);
      ports_order = sound.ports;
    };
  }

-- ---- what the call says

-- a cell that stands for none
no_cell : Cell
no_cell = record {
  name = [];
  bounds = record { x1 = pos 0; y1 = pos 0; x2 = pos 0; y2 = pos 0 };
  items = [];
  pins = [];
  function = opaque;
  arcs = [];
}

pub few_sinks : (l : Library) (limit : ℕ) (n : InMemory) → (IsCrowded l limit n → ⊥) → (class : ℕ) → length (sinks l (wired_of n) class) ≤ limit
few_sinks l limit n not_crowded class = elim (below_or limit (length (sinks l (wired_of n) class))) [
  | inl over ↦ absurd (not_crowded (class, over))
  | inr under ↦ under
]

pub start_buffered : (l : Library) (n : InMemory) (v : Wiring) (limit : ℕ) (k : InMemory) → (IsCrowded l limit n → ⊥) → Built l n None v limit (wired_of n) → IsGated n None v k → IsBuffered n l limit k
start_buffered l n v limit k not_crowded b g = record {
  name = g.name;
  repeater = record { cell = no_cell; gates = 1 };
  chosen = λ crowded. absurd (not_crowded crowded);
  names = [];
  named = refl;
  wired = wired_of n;
  limited = within b.few;
  is = is_of l n None v (wired_of n) b.follows b.ports b.instances k g;
}

pub limited_buffered : (l : Library) (n : InMemory) (r : Parts) (u : Wiring) (limit : ℕ) (b : Repeater) (k : InMemory) → IsRepeater l.cells b → LimitedBuilt l n r u limit b
    → IsGated n (Some r) u k → IsBuffered n l limit k
limited_buffered l n r u limit b k rep h g = record {
  name = g.name;
  repeater = b;
  chosen = λ crowded. rep;
  names = gate_names n (gates_in u);
  named = ap (gate_names n) (sym h.named);
  wired = h.wired;
  limited = h.limited;
  is = is_of l n (Some r) u h.wired h.built.follows h.built.ports h.built.instances k g;
}

-- there are no more gates than sinks
pub start_few : (l : Library) (n : InMemory) (v : Wiring) (k : InMemory) → IsGated n None v k → HasFewGates n l k
start_few l n v k g = let a = ap length (g.instances ∙ append-nil n.instances) in omega (arith, a)

pub limited_few : (l : Library) (n : InMemory) (r : Parts) (u : Wiring) (limit : ℕ) (b : Repeater) (k : InMemory) → LimitedBuilt l n r u limit b → IsGated n (Some r) u k
    → 4 ≤ limit → HasFewGates n l k
limited_few l n r u limit b k h g four =
    let names = gate_names n (gates_in u) in
    let a = ap length g.instances in
    let m = length-append n.instances (map (gate_by r) names) in
    let p = length-map (gate_by r) names in
    let named = h.named in
    let few = h.fewer four in
    omega (arith, a, m, p, named, few)

-- a library that has a repeater doesn't lack one
pub not_none : (cells : List Cell) (b : Repeater) → IsRepeater cells b → NoneRepeats cells → ⊥
not_none cells b (buffer {c = c} first) lacks = lacks c (member_at cells first.place c first.stands) (inl first.holds)
not_none cells b (inverters {c = c} none first) lacks = lacks c (member_at cells first.place c first.stands) (inr first.holds)

some_of : {A : Type 0} (P : A → Type 0) (o : Option A) (x : A) → o ≡ Some x → IfSome o P → P x
some_of {A} P o x is h = subst (λ (p : Option A). IfSome p P) is h

none_of : {A : Type 0} (Q : Type 0) (o : Option A) → o ≡ None → IfNone o Q → Q
none_of {A} Q o is h = subst (λ (p : Option A). IfNone p Q) is h

-- where no net is crowded
pub record Calm (l : Library) (n : InMemory) (v : Wiring) (limit : ℕ) : Type 0 where
  pub not_crowded : IsCrowded l limit n → ⊥
  pub built : Built l n None v limit (wired_of n)

pub calm : (l : Library) (n : InMemory) (v : Wiring) (limit : ℕ) → IsNetlist n → IsOfCells n l → HasRoomForGates n → IsStart n v → (loads seen : List (Vec ℕ))
    → AreNetLoads (all_marks l n) n.classes n.count v.high v.low loads → seen ≡ loads → (b : Bool) → b ≡ false → (IsTrue b ↔ HasLongLoad limit seen) → Calm l n v limit
calm l n v limit sound cells room start loads seen are same b is told = record {
  not_crowded = never;
  built = start_built l n v limit sound cells room start (few_sinks l limit n never);
} where
  never : IsCrowded l limit n → ⊥
  never c =
      let h : b ≡ true = told.1 (subst (λ (ls : List (Vec ℕ)). HasLongLoad limit ls) (sym same) (crowded_long l limit n v loads sound cells start are c)) in
      let wrong : false ≡ true = sym is ∙ h in cc wrong

pub crowded : (l : Library) (n : InMemory) (v : Wiring) (limit : ℕ) → IsNetlist n → IsStart n v → (loads seen : List (Vec ℕ))
    → AreNetLoads (all_marks l n) n.classes n.count v.high v.low loads → seen ≡ loads → (b : Bool) → b ≡ true → (IsTrue b ↔ HasLongLoad limit seen) → IsCrowded l limit n
crowded l n v limit sound start loads seen are same b is told =
    long_crowded l limit n v loads sound start are (subst (λ (ls : List (Vec ℕ)). HasLongLoad limit ls) same (told.0 is))

-- where one is, and there is a repeater
pub record Repeated (l : Library) (n : InMemory) (r : Parts) (u : Wiring) (limit : ℕ) : Type 0 where
  pub b : Repeater
  pub rep : IsRepeater l.cells b
  pub done : LimitedBuilt l n r u limit b

cells_of : (l : Library) (cs : List Cell) → library_of cs ≡ l → cs ≡ l.cells
cells_of l cs e = ap (λ (x : Library). x.cells) e

pub repeated : TextsAreFree → (l : Library) (n : InMemory) (limit : ℕ) → 2 ≤ limit → IsNetlist n → IsOfCells n l → HasRoomForGates n → (cs : List Cell) → library_of cs ≡ l → IsChecked false l
    → (o : Option Parts) (r : Parts) → o ≡ Some r → IfSome o (λ x. IsRepeaterOf cs x) → (v u : Wiring) → IsStart n v → (loads seen : List (Vec ℕ))
    → AreNetLoads (all_marks l n) n.classes n.count v.high v.low loads → seen ≡ loads → LimitsAll r limit 0 seen v u → Repeated l n r u limit
repeated law l n limit size sound cells room cs same_cells checked o r is found v u start loads seen are same h =
    let q = some_of (λ (x : Parts). IsRepeaterOf cs x) o r is found in
    let rep = subst (λ (xs : List Cell). IsRepeater xs q.repeater) (cells_of l cs same_cells) q.chosen in
    record {
      b = q.repeater;
      rep = rep;
      done = limited_built law l n limit size sound cells room checked q.repeater rep r q.is v u start loads are
          (subst (λ (ls : List (Vec ℕ)). LimitsAll r limit 0 ls v u) same h);
    }

pub lacking : (l : Library) (cs : List Cell) → library_of cs ≡ l → (o : Option Parts) → o ≡ None → IfNone o (NoneRepeats cs) → NoneRepeats l.cells
lacking l cs same o is none_found = subst (λ (xs : List Cell). NoneRepeats xs) (cells_of l cs same) (none_of (NoneRepeats cs) o is none_found)
