-- What is known before gates are put in: sinks by places are sinks by terminals.
use Rattle.std.proofs.Common.{◌≡◌, inl, inr, ℕ, suc, ◌+◌, ◌<◌, Bool, true, false, ◌&&◌, ◌||◌, List, [], ◌∷◌, ◌++◌, map, filter, length, refl, sym, ◌∙◌, ap, subst, arith, append_assoc, length-append, nat_eq, if◌then◌else◌}
use Rattle.std.proofs.lemmas.Option.{slice_get_within}
use Rattle.std.specs.Global.{Vec}
use Rattle.std.specs.List.{flat_map}
use Rattle.vlsi_base.specs.declared.name.Port.{Port}
use Rattle.vlsi_base.specs.declared.name.Terminal.{Terminal}
use Rattle.vlsi_base.specs.Names.{vdd, vss}
use Rattle.vlsi_base.specs.Member.{In, AllDifferent}
use Rattle.cell_model.specs.Library.{Library, cell_of}
use Rattle.cell_model.proofs.Members.{All-In, In-left, In-right, In-split, In-map, In-map_back}
use Rattle.cell_pins.proofs.Ports.{in_filter}
use Rattle.cell_pins.proofs.Sound.{member_at}
use Rattle.net_core.specs.Netlist.{Instance, Netlist as InMemory, IsNetlist, port, pin_of, pins_of, terminals}
use Rattle.net_core.specs.Places.{Stands, NoneTwice}
use Rattle.net_core.proofs.Finishing.{netlist_terminals_once}
use Rattle.net_core.proofs.Namings.{turn_below}
use Rattle.net_core.proofs.Standing.{stands_right}
use Rattle.net_theory.proofs.Basics.{length-map}
use Rattle.loon_wiring.specs.declared.wiring.Wiring.{Wiring}
use Rattle.loon_loads.specs.Sinks.{is_sink_of}
use Rattle.loon_fanout.specs.Sinks.{instance_sinks, is_supply_class, sinks, is_same_terminal, class_among, wired_of}
use Rattle.loon_fanout.specs.Limited.{IsOfCells}
use Rattle.loon_loads.specs.Loads.{pin_marks, all_marks, marked_places, AreNetLoads}
use Rattle.loon_fanout.specs.Starts.{IsStart}
use Rattle.loon_fanout.proofs.Terminals.{terminal_same, terminal_itself, class_is}
use Rattle.loon_fanout.proofs.Picking.{is_false, map_same, different_append, different_left, different_right, different_apart, different_of, AtPlaces}
use Rattle.loon_loads.proofs.Loading.{got}
use Rattle.loon_fanout.proofs.Supplies.{readers}
use Rattle.loon_fanout.proofs.Sinking.{all_sinks}
use Rattle.loon_fanout.proofs.Following.{Follows, none_behind}
use Rattle.loon_fanout.proofs.Rounds.{AreLeft}

-- ---- classes

-- the classes of all terminals are what stands beside each
map_among : (us : List Terminal) (ks : List ℕ) → AllDifferent us → length ks ≡ length us → ks ≡ map (class_among us ks) us
map_among [] [] d many = refl
map_among [] (k ∷ ks) d many = absurd (omega (arith, many))
map_among (u ∷ us) [] d many = absurd (omega (arith, many))
map_among (u ∷ us) (k ∷ ks) d many =
    ap (λ (js : List ℕ). k ∷ js) (map_among us ks d.1 (omega (arith, many)))
    ∙ ap (λ (j : ℕ). j ∷ map (class_among us ks) us) (sym (ap (λ (b : Bool). if b then k else class_among us ks u) (terminal_itself u)))
    ∙ ap (λ (js : List ℕ). (if is_same_terminal u u then k else class_among us ks u) ∷ js)
    (map_same (class_among us ks) (λ t. if is_same_terminal u t then k else class_among us ks t) us (λ t i.
    sym (ap (λ (b : Bool). if b then k else class_among us ks t)
    (is_false (is_same_terminal u t) (λ e. d.0 (subst (λ (x : Terminal). In x us) (sym (terminal_same u t e)) i))))))

-- ---- sinks among terminals

filtered_map : {A B : Type 0} (f : A → B) (p : A → Bool) (xs : List A) (y : B) → In y (map f (filter p xs)) → In y (map f xs)
filtered_map {A} {B} f p xs y i =
    let r = In-map_back f y (filter p xs) i in
    subst (λ (z : B). In z (map f xs)) r.2 (In-map f r.0 xs (in_filter p xs r.0 r.1).0)

filtered_differ : {A B : Type 0} (f : A → B) (p : A → Bool) (xs : List A) → AllDifferent (map f xs) → AllDifferent (map f (filter p xs))
filtered_differ f p [] d = tt
filtered_differ {A} {B} f p (x ∷ xs) d = by (p x) (filtered_differ f p xs d.1) where
  by : (b : Bool) → AllDifferent (map f (filter p xs)) → AllDifferent (map f (if b then x ∷ filter p xs else filter p xs))
  by true h = (λ i. d.0 (filtered_map f p xs (f x) i), h)
  by false h = h

sinks_in : (l : Library) (is : List Instance) (t : Terminal) → In t (flat_map (instance_sinks l) is) → In t (flat_map pins_of is)
sinks_in l [] t i = elim i [ ]
sinks_in l (x ∷ is) t i = elim (In-split t (instance_sinks l x) (flat_map (instance_sinks l) is) i) [
  | inl a ↦ In-left t (pins_of x) (flat_map pins_of is) (filtered_map (pin_of x.name) (is_sink_of (cell_of l x.model)) x.pins t a)
  | inr b ↦ In-right t (pins_of x) (flat_map pins_of is) (sinks_in l is t b)
]

sinks_apart : (l : Library) (is : List Instance) → AllDifferent (flat_map pins_of is) → AllDifferent (flat_map (instance_sinks l) is)
sinks_apart l [] d = tt
sinks_apart l (x ∷ is) d =
    different_append (instance_sinks l x) (flat_map (instance_sinks l) is)
    (filtered_differ (pin_of x.name) (is_sink_of (cell_of l x.model)) x.pins (different_left (pins_of x) (flat_map pins_of is) d))
    (sinks_apart l is (different_right (pins_of x) (flat_map pins_of is) d))
    (λ t i j. different_apart (pins_of x) (flat_map pins_of is) d t (filtered_map (pin_of x.name) (is_sink_of (cell_of l x.model)) x.pins t i) (sinks_in l is t j))

-- ---- the start

-- the classes of the supplies
pub start_high : (n : InMemory) (v : Wiring) → IsNetlist n → IsStart n v → (wired_of n).class (port vdd) ≡ v.high
start_high n v sound start = class_is (terminals n) n.classes (port vdd) start.high.0 v.high (netlist_terminals_once n sound) start.high.1 start.high.2

pub start_low : (n : InMemory) (v : Wiring) → IsNetlist n → IsStart n v → (wired_of n).class (port vss) ≡ v.low
start_low n v sound start = class_is (terminals n) n.classes (port vss) start.low.0 v.low (netlist_terminals_once n sound) start.low.1 start.low.2

pub follows_start : (l : Library) (left : List (List ℕ)) (n : InMemory) (v : Wiring) → IsNetlist n → IsOfCells n l → IsStart n v
    → AllDifferent (map (λ i. i.name) n.instances ++ left) → Follows l left v (wired_of n)
follows_start l left n v sound cells start names = record {
  classes = start.classes ∙ classes;
  count = let a = start.first in let b = ap length start.reads in (let e : n.count ≡ v.first + length v.reads.items = omega (arith, a, b) in e);
  high = start_high n v sound start;
  low = start_low n v sound start;
  below = λ t i. All-In (λ k. k < n.count) n.classes (turn_below 0 n.count n.classes sound.turns) (class_among (terminals n) n.classes t)
      (subst (λ (ks : List ℕ). In (class_among (terminals n) n.classes t) ks) (sym classes) (In-map (class_among (terminals n) n.classes) t (terminals n) i));
  differ = differ;
  sinks_differ = sinks_apart l n.instances (different_right (map (λ p. port p.name) n.ports) (flat_map pins_of n.instances) differ);
  names = names;
  on_vdd = let r = cells.on_vdd in member_at (terminals n) r.0 (port vdd) r.1;
  on_vss = let r = cells.on_vss in member_at (terminals n) r.0 (port vss) r.1;
} where
  once : NoneTwice (terminals n)
  once = netlist_terminals_once n sound

  differ : AllDifferent (terminals n)
  differ = different_of (terminals n) once

  classes : n.classes ≡ map (class_among (terminals n) n.classes) (terminals n)
  classes = map_among (terminals n) n.classes differ sound.each

-- ---- marks

abbrev keep : {A : Type 0} → List Bool → List A → List A
keep [] us = []
keep (m ∷ marks) [] = []
keep (m ∷ marks) (u ∷ us) = if m then u ∷ keep marks us else keep marks us

keep_append : {A : Type 0} (ms more : List Bool) (us others : List A) → length ms ≡ length us → keep (ms ++ more) (us ++ others) ≡ keep ms us ++ keep more others
keep_append [] more [] others many = refl
keep_append [] more (u ∷ us) others many = absurd (omega (arith, many))
keep_append (m ∷ ms) more [] others many = absurd (omega (arith, many))
keep_append {A} (m ∷ ms) more (u ∷ us) others many = by m (keep_append ms more us others (omega (arith, many))) where
  by : (b : Bool) → keep (ms ++ more) (us ++ others) ≡ keep ms us ++ keep more others
      → (if b then u ∷ keep (ms ++ more) (us ++ others) else keep (ms ++ more) (us ++ others)) ≡ (if b then u ∷ keep ms us else keep ms us) ++ keep more others
  by true h = ap (λ (zs : List A). u ∷ zs) h
  by false h = h

keep_none : {A B : Type 0} (g : A → B) (ps : List A) → keep (map (λ p. false) ps) (map g ps) ≡ []
keep_none g [] = refl
keep_none g (p ∷ ps) = keep_none g ps

keep_map : {A B : Type 0} (g : A → B) (test : A → Bool) (ns : List A) → keep (map test ns) (map g ns) ≡ map g (filter test ns)
keep_map g test [] = refl
keep_map {A} {B} g test (n ∷ ns) = by (test n) (keep_map g test ns) where
  by : (b : Bool) → keep (map test ns) (map g ns) ≡ map g (filter test ns)
      → (if b then g n ∷ keep (map test ns) (map g ns) else keep (map test ns) (map g ns)) ≡ map g (if b then n ∷ filter test ns else filter test ns)
  by true h = ap (λ (zs : List B). g n ∷ zs) h
  by false h = h

keep_sinks : (l : Library) (is : List Instance) → keep (flat_map (pin_marks l) is) (flat_map pins_of is) ≡ flat_map (instance_sinks l) is
keep_sinks l [] = refl
keep_sinks l (i ∷ is) =
    keep_append (pin_marks l i) (flat_map (pin_marks l) is) (pins_of i) (flat_map pins_of is)
    (length-map (is_sink_of (cell_of l i.model)) i.pins ∙ sym (length-map (pin_of i.name) i.pins))
    ∙ ap (λ (ts : List Terminal). ts ++ keep (flat_map (pin_marks l) is) (flat_map pins_of is)) (keep_map (pin_of i.name) (is_sink_of (cell_of l i.model)) i.pins)
    ∙ ap (λ (ts : List Terminal). instance_sinks l i ++ ts) (keep_sinks l is)

keep_all : (l : Library) (n : InMemory) → keep (all_marks l n) (terminals n) ≡ all_sinks l (wired_of n)
keep_all l n =
    keep_append (map (λ (p : Port). false) n.ports) (flat_map (pin_marks l) n.instances) (map (λ (p : Port). port p.name) n.ports) (flat_map pins_of n.instances)
    (length-map (λ (p : Port). false) n.ports ∙ sym (length-map (λ (p : Port). port p.name) n.ports))
    ∙ ap (λ (ts : List Terminal). ts ++ keep (flat_map (pin_marks l) n.instances) (flat_map pins_of n.instances)) (keep_none (λ (p : Port). port p.name) n.ports)
    ∙ keep_sinks l n.instances

marked_at : (f : Terminal → ℕ) (k : ℕ) (marks : List Bool) (us before : List Terminal) (place : ℕ) → place ≡ length before
    → AtPlaces (before ++ us) (marked_places place marks (map f us) k) (filter (λ t. nat_eq (f t) k) (keep marks us))
marked_at f k [] us before place is = tt
marked_at f k (m ∷ marks) [] before place is = tt
marked_at f k (m ∷ marks) (u ∷ us) before place is =
    by m (nat_eq (f u) k) refl
    (subst (λ (ts : List Terminal). AtPlaces ts (marked_places (suc place) marks (map f us) k) (filter (λ t. nat_eq (f t) k) (keep marks us))) (append_assoc before (u ∷ []) us)
    (marked_at f k marks us (before ++ u ∷ []) (suc place) (let n = length-append before (u ∷ []) in omega (arith, n, is)))) where
      stands : Stands (before ++ (u ∷ us)) place u
      stands = let n : length before + 0 ≡ place = omega (arith, is) in
          subst (λ (j : ℕ). Stands (before ++ (u ∷ us)) j u) n (stands_right before (u ∷ us) 0 u refl)

      by : (a b : Bool) → nat_eq (f u) k ≡ b → AtPlaces (before ++ (u ∷ us)) (marked_places (suc place) marks (map f us) k) (filter (λ t. nat_eq (f t) k) (keep marks us))
          → AtPlaces (before ++ (u ∷ us)) (if a && b then place ∷ (marked_places (suc place) marks (map f us) k) else (marked_places (suc place) marks (map f us) k)) (filter (λ t. nat_eq (f t) k) (if a then u ∷ keep marks us else keep marks us))
      by true true e h = subst (λ (c : Bool). AtPlaces (before ++ (u ∷ us)) (place ∷ (marked_places (suc place) marks (map f us) k)) (if c then u ∷ filter (λ t. nat_eq (f t) k) (keep marks us) else filter (λ t. nat_eq (f t) k) (keep marks us))) (sym e) (stands, h)
      by true false e h = subst (λ (c : Bool). AtPlaces (before ++ (u ∷ us)) (marked_places (suc place) marks (map f us) k) (if c then u ∷ filter (λ t. nat_eq (f t) k) (keep marks us) else filter (λ t. nat_eq (f t) k) (keep marks us))) (sym e) h
      by false b e h = h

places_are_readers : (l : Library) (n : InMemory) → IsNetlist n → (k : ℕ) → AtPlaces (terminals n) (marked_places 0 (all_marks l n) n.classes k) (readers l (wired_of n) k)
places_are_readers l n sound k =
    subst (λ (ks : List ℕ). AtPlaces (terminals n) (marked_places 0 (all_marks l n) ks k) (readers l (wired_of n) k))
    (sym (map_among (terminals n) n.classes (different_of (terminals n) (netlist_terminals_once n sound)) sound.each))
    (subst (λ (ts : List Terminal). AtPlaces (terminals n) (marked_places 0 (all_marks l n) (map (class_among (terminals n) n.classes) (terminals n)) k)
    (filter (λ t. nat_eq (class_among (terminals n) n.classes t) k) ts)) (keep_all l n)
    (marked_at (class_among (terminals n) n.classes) k (all_marks l n) (terminals n) [] 0 refl))

-- ---- loads

module _ (l : Library) (n : InMemory) (loads : List (Vec ℕ)) (sound : IsNetlist n) (high low : ℕ) (on_high : (wired_of n).class (port vdd) ≡ high) (on_low : (wired_of n).class (port vss) ≡ low)
    (are : AreNetLoads (all_marks l n) n.classes n.count high low loads) where
  supplies : (k : ℕ) → is_supply_class (wired_of n) k ≡ (nat_eq high k || nat_eq low k)
  supplies k =
      ap (λ (a : ℕ). nat_eq a k || nat_eq ((wired_of n).class (port vss)) k) on_high
      ∙ ap (λ (b : ℕ). nat_eq high k || nat_eq b k) on_low

  net_places : (k : ℕ) → AtPlaces (terminals n) (if nat_eq high k || nat_eq low k then [] else marked_places 0 (all_marks l n) n.classes k) (sinks l (wired_of n) k)
  net_places k =
      subst (λ (x : Bool). AtPlaces (terminals n) (if nat_eq high k || nat_eq low k then [] else marked_places 0 (all_marks l n) n.classes k) (if x then [] else readers l (wired_of n) k))
      (sym (supplies k)) (by (nat_eq high k || nat_eq low k)) where
        by : (b : Bool) → AtPlaces (terminals n) (if b then [] else marked_places 0 (all_marks l n) n.classes k) (if b then [] else readers l (wired_of n) k)
        by true = tt
        by false = places_are_readers l n sound k

  pub load_is : (k : ℕ) (places : Vec ℕ) → Stands loads k places → AtPlaces (terminals n) places.items (sinks l (wired_of n) k)
  load_is k places at =
      let inside = slice_get_within loads k places at in
      let many = are.many in
      subst (λ (ps : List ℕ). AtPlaces (terminals n) ps (sinks l (wired_of n) k))
      (sym (are.each k places (omega (arith, inside, many))) ∙ ap (λ (x : Vec ℕ). x.items) (got loads k places at))
      (net_places k)

pub left_start : (l : Library) (limit : ℕ) (left : List (List ℕ)) (n : InMemory) (v : Wiring) (loads : List (Vec ℕ)) → IsNetlist n
    → AreNetLoads (all_marks l n) n.classes n.count v.high v.low loads → Follows l left v (wired_of n) → AreLeft l limit loads 0 (wired_of n)
left_start l limit left n v loads sound are f = record {
  each = λ i places at. let zero_i : i ≡ 0 + i = omega arith in
      subst (λ (k : ℕ). AtPlaces (terminals n) places.items (sinks l (wired_of n) k)) zero_i (load_is l n loads sound v.high v.low f.high f.low are i places at);
  within = let many = are.many in omega (arith, many);
  earlier = λ k low. absurd (omega (arith, low));
  behind = λ k past. let many = are.many in let e = ap length (none_behind l left v (wired_of n) f k (omega (arith, past, many))) in omega (arith, e);
}
