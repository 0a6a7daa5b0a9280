-- How many gates and pins there are with all gates.
use Rattle.std.proofs.Common.{◌≡◌, inl, inr, ℕ, zero, suc, ◌+◌, ◌*◌, ◌<◌, ◌≤◌, Bool, true, false, ◌||◌, List, [], ◌∷◌, ◌++◌, map, filter, length, refl, sym, ◌∙◌, ap, subst, arith, length-append, nat_eq, eqb-true, if◌then◌else◌}
use Rattle.std.proofs.lemmas.Option.{slice_get_within}
use Rattle.std.specs.Prelude.{slice_set}
use Rattle.std.specs.Global.{Vec}
use Rattle.std.specs.List.{flat_map}
use Rattle.vlsi_base.specs.declared.name.Port.{Port}
use Rattle.cell_model.specs.Library.{Library, cell_of}
use Rattle.net_core.specs.Netlist.{Instance, Netlist as InMemory, pin_of, pins_of}
use Rattle.net_core.specs.Places.{Stands}
use Rattle.net_theory.proofs.Basics.{length-map}
use Rattle.loon_wiring.specs.declared.repeater.Tie.{Tie}
use Rattle.loon_wiring.specs.declared.repeater.Repeater.{Repeater as Parts}
use Rattle.loon_wiring.specs.declared.wiring.Wiring.{Wiring}
use Rattle.loon_loads.specs.Sinks.{is_sink_of}
use Rattle.loon_fanout.specs.Sinks.{instance_sinks, all_sinks}
use Rattle.loon_loads.specs.Loads.{pin_marks, all_marks, marked_places, AreNetLoads}
use Rattle.loon_wiring.specs.Stages.{tied_class, ends_of, PutsGate, PutsRow, once, two, set_places, PutsBehind, PutsGroups, none, one, LimitsClass, few, many, LimitsAll, done, more}
use Rattle.loon_loads.proofs.Loading.{got}
use Rattle.loon_fanout.proofs.Rounds.{gates_in, below_or}

-- ---- pins by gates

abbrev pins_in : Wiring → ℕ
pins_in v = length v.classes.items

-- a gate has at most four pins
record Pins (v u : Wiring) : Type 0 where
  pub few : pins_in u + 4 * gates_in v ≤ pins_in v + 4 * gates_in u
  pub more : gates_in v ≤ gates_in u

pins_then : (v m u : Wiring) → Pins v m → Pins m u → Pins v u
pins_then v m u a b = record {
  few = let p = a.few in let q = b.few in omega (arith, p, q);
  more = let p = a.more in let q = b.more in omega (arith, p, q);
}

pins_same : (v : Wiring) → Pins v v
pins_same v = record { few = omega arith; more = omega arith }

gate_pins : (ties : List Tie) (v u : Wiring) (read place : ℕ) → length ties ≤ 4 → PutsGate ties v u read place → (gates_in u ≡ gates_in v + 1) × Pins v u
gate_pins ties v u read place small h =
    let a = ap length h.classes ∙ length-append v.classes.items (map (tied_class (ends_of v read)) ties) in
    let n = length-map (tied_class (ends_of v read)) ties in
    let b = ap length h.reads ∙ length-append v.reads.items (read ∷ []) in
    (omega (arith, b), record { few = omega (arith, a, n, b, small); more = omega (arith, b) })

set_many : (ks places : List ℕ) (class : ℕ) → length (set_places ks places class) ≡ length ks
set_many ks [] class = refl
set_many ks (p ∷ places) class = set_many (slice_set ks p class) places class ∙ set_length ks p class where
  set_length : (js : List ℕ) (i k : ℕ) → length (slice_set js i k) ≡ length js
  set_length [] i k = refl
  set_length (j ∷ js) zero k = refl
  set_length (j ∷ js) (suc i) k = let h = set_length js i k in omega (arith, h)

row_pins : (r : Parts) (v u : Wiring) (read place driven : ℕ) → length r.ties.items ≤ 4 → PutsRow r v u read place driven → (gates_in u ≤ gates_in v + 2) × Pins v u
row_pins r v u read place driven small (once single puts) =
    let a = gate_pins r.ties.items v u read place small puts in let b = a.0 in (omega (arith, b), a.1)
row_pins r v u read place driven small (two m other double puts again) =
    let a = gate_pins r.ties.items v m read place small puts in
    let d = gate_pins r.ties.items m u _ other small again in
    let b = a.0 in let e = d.0 in
    (omega (arith, b, e), pins_then v m u a.1 d.1)

behind_pins : (r : Parts) (v u : Wiring) (class place : ℕ) (group : List ℕ) → length r.ties.items ≤ 4 → PutsBehind r v u class group place → (gates_in u ≤ gates_in v + 2) × Pins v u
behind_pins r v u class place group small h =
    let a = row_pins r v h.middle class place h.driven small h.row in
    let b = a.0 in
    let few_row = a.1.few in
    let more_row = a.1.more in
    let e = ap (λ (x : Vec ℕ). length x.items) h.moved.reads in
    let n = ap length h.moved.classes ∙ set_many h.middle.classes.items group h.driven in
    (omega (arith, b, e), record { few = omega (arith, few_row, e, n); more = omega (arith, more_row, e) })

-- what a round puts in; groups of four or more are at most a quarter of the sinks, but for the last
record Groups (limit : ℕ) (v u : Wiring) (places inputs all : List ℕ) : Type 0 where
  pub gates : gates_in u + 2 * length inputs ≤ gates_in v + 2 * length all
  pub halves : 2 * length all ≤ 2 * length inputs + length places + 1
  pub quarters : 4 ≤ limit → 4 * length all ≤ 4 * length inputs + length places + 3
  pub pins : Pins v u

groups_pins : (r : Parts) (limit class : ℕ) → 2 ≤ limit → length r.ties.items ≤ 4 → (v u : Wiring) (places inputs all : List ℕ) → PutsGroups r limit class v places inputs u all
    → Groups limit v u places inputs all
groups_pins r limit class size small v u places inputs all none = record { gates = omega arith; halves = omega arith; quarters = λ four. omega arith; pins = pins_same v }
groups_pins r limit class size small v u places inputs all (one {w = x} {group = group} {rest = rest} {input = input} some within full behind later) =
    let a = behind_pins r v x class input group small behind in
    let rec = groups_pins r limit class size small x u rest (inputs ++ input ∷ []) all later in
    let n = length-append inputs (input ∷ []) in
    let b = a.0 in
    let gates = rec.gates in
    let halves = rec.halves in
    let size_is = length-append group rest in
    record {
      gates = omega (arith, b, gates, n);
      halves = elim full [
        | inl none_left ↦ let z = ap length none_left in omega (arith, z, halves, n, some, size_is)
        | inr whole ↦ omega (arith, whole, size, halves, n, size_is)
      ];
      quarters = λ four.
          let quarters = rec.quarters four in
          elim full [
            | inl none_left ↦ let z = ap length none_left in omega (arith, z, quarters, n, some, size_is)
            | inr whole ↦ omega (arith, whole, four, quarters, n, size_is)
          ];
      pins = pins_then v x u a.1 rec.pins;
    }

-- with a limit of four or more, a class takes no more gates than it has sinks
record Class (limit : ℕ) (v u : Wiring) (places : List ℕ) : Type 0 where
  pub small : length places ≤ limit → gates_in u ≤ gates_in v
  pub large : limit < length places → gates_in u + 8 ≤ gates_in v + 4 * length places
  pub fewer : 4 ≤ limit → gates_in u ≤ gates_in v + length places
  pub pins : Pins v u

class_pins : (r : Parts) (limit class : ℕ) → 2 ≤ limit → length r.ties.items ≤ 4 → (v u : Wiring) (places : List ℕ) → LimitsClass r limit class v places u → Class limit v u places
class_pins r limit class size small v u places (few under) = record {
  small = λ h. omega arith;
  large = λ h. absurd (omega (arith, h, under));
  fewer = λ four. omega arith;
  pins = pins_same v;
}
class_pins r limit class size small v u places (many {w = x} {inputs = inputs} over groups later) =
    let a = groups_pins r limit class size small v x places [] inputs groups in
    let rec = class_pins r limit class size small x u inputs later in
    let gates = a.gates in
    let halves = a.halves in
    record {
      small = λ h. absurd (omega (arith, h, over));
      large = λ h. elim (below_or limit (length inputs)) [
        | inl more_left ↦ let e = rec.large more_left in omega (arith, e, gates, halves, over, size)
        | inr few_left ↦ let e = rec.small few_left in omega (arith, e, gates, halves, over, size)
      ];
      fewer = λ four.
          let quarters = a.quarters four in
          elim (below_or limit (length inputs)) [
            | inl more_left ↦ let e = rec.fewer four in omega (arith, e, gates, quarters, more_left, four)
            | inr few_left ↦ let e = rec.small few_left in omega (arith, e, gates, quarters, over, four)
          ];
      pins = pins_then v x u a.pins rec.pins;
    }

-- ---- all loads

abbrev pub total : List (Vec ℕ) → ℕ
total [] = 0
total (x ∷ loads) = length x.items + total loads

pub record Counted (limit : ℕ) (v u : Wiring) (loads : ℕ) : Type 0 where
  pub gates : gates_in u ≤ gates_in v + 4 * loads
  pub fewer : 4 ≤ limit → gates_in u ≤ gates_in v + loads
  pub pins : pins_in u + 4 * gates_in v ≤ pins_in v + 4 * gates_in u

pub counted : (r : Parts) (limit class : ℕ) → 2 ≤ limit → length r.ties.items ≤ 4 → (loads : List (Vec ℕ)) (v u : Wiring) → LimitsAll r limit class loads v u
    → Counted limit v u (total loads)
counted r limit class size small loads v u done = record { gates = omega arith; fewer = λ four. omega arith; pins = omega arith }
counted r limit class size small loads v u (more {w = x} {sinks = places} {rest = rest} here later) =
    let a = class_pins r limit class size small v x places.items here in
    let rec = counted r limit (suc class) size small rest x u later in
    let gates = rec.gates in
    let pins = rec.pins in
    let here_pins = a.pins.few in
    let one_class : gates_in x ≤ gates_in v + 4 * length places.items = elim (below_or limit (length places.items)) [
      | inl over ↦ let e = a.large over in omega (arith, e)
      | inr under ↦ let e = a.small under in omega (arith, e)
    ] in
    record {
      gates = omega (arith, gates, one_class);
      fewer = λ four. let e = a.fewer four in let f = rec.fewer four in omega (arith, e, f);
      pins = omega (arith, pins, here_pins);
    }

-- ---- loads are no more than terminals

abbrev sum_from : (ℕ → ℕ) → ℕ → ℕ → ℕ
sum_from f k zero = 0
sum_from f k (suc n) = f k + sum_from f (suc k) n

sum_both : (f g h : ℕ → ℕ) (k n : ℕ) → ((j : ℕ) → h j ≤ f j + g j) → sum_from h k n ≤ sum_from f k n + sum_from g k n
sum_both f g h k zero each = omega arith
sum_both f g h k (suc n) each = let a = each k in let b = sum_both f g h (suc k) n each in omega (arith, a, b)

abbrev is_at : ℕ → ℕ → ℕ
is_at c j = if nat_eq c j then 1 else 0

sum_past : (c k n : ℕ) → c < k → sum_from (is_at c) k n ≡ 0
sum_past c k zero low = refl
sum_past c k (suc n) low = by (nat_eq c k) refl (sum_past c (suc k) n (omega (arith, low))) where
  by : (b : Bool) → nat_eq c k ≡ b → sum_from (is_at c) (suc k) n ≡ 0 → (if b then 1 else 0) + sum_from (is_at c) (suc k) n ≡ 0
  by true e r = let same = eqb-true c k e in absurd (omega (arith, same, low))
  by false e r = omega (arith, r)

sum_one : (c k n : ℕ) → sum_from (is_at c) k n ≤ 1
sum_one c k zero = omega arith
sum_one c k (suc n) = by (nat_eq c k) refl (sum_one c (suc k) n) where
  by : (b : Bool) → nat_eq c k ≡ b → sum_from (is_at c) (suc k) n ≤ 1 → (if b then 1 else 0) + sum_from (is_at c) (suc k) n ≤ 1
  by true e h = let same = eqb-true c k e in let r = sum_past c (suc k) n (omega (arith, same)) in omega (arith, r)
  by false e h = omega (arith, h)

sum_zero : (k n : ℕ) → sum_from (λ j. 0) k n ≡ 0
sum_zero k zero = refl
sum_zero k (suc n) = let r = sum_zero (suc k) n in omega (arith, r)

abbrev many_at : ℕ → List Bool → List ℕ → ℕ → ℕ
many_at place marks classes j = length (marked_places place marks classes j)

-- how many are marked
abbrev pub marked : List Bool → ℕ
marked [] = 0
marked (m ∷ marks) = (if m then 1 else 0) + marked marks

marked_few : (place : ℕ) (marks : List Bool) (classes : List ℕ) (k n : ℕ) → sum_from (many_at place marks classes) k n ≤ marked marks
marked_few place [] classes k n = let z = sum_zero k n in omega (arith, z)
marked_few place (m ∷ marks) [] k n = let z = sum_zero k n in omega (arith, z)
marked_few place (m ∷ marks) (c ∷ classes) k n = by m (marked_few (suc place) marks classes k n) where
  by : (b : Bool) → sum_from (many_at (suc place) marks classes) k n ≤ marked marks → sum_from (many_at place (b ∷ marks) (c ∷ classes)) k n ≤ (if b then 1 else 0) + marked marks
  by true later =
      let a = sum_both (is_at c) (many_at (suc place) marks classes) (many_at place (true ∷ marks) (c ∷ classes)) k n each in
      let b = sum_one c k n in
      omega (arith, a, b, later) where
        each : (j : ℕ) → many_at place (true ∷ marks) (c ∷ classes) j ≤ is_at c j + many_at (suc place) marks classes j
        each j = one_more (nat_eq c j) (marked_places (suc place) marks classes j) where
          one_more : (b : Bool) (later : List ℕ) → length (if b then place ∷ later else later) ≤ (if b then 1 else 0) + length later
          one_more true later = omega arith
          one_more false later = omega arith
  by false later = let same : sum_from (many_at place (false ∷ marks) (c ∷ classes)) k n ≤ marked marks = later in omega (arith, same)

total_most : (f : ℕ → ℕ) (loads : List (Vec ℕ)) (k : ℕ) → ((i : ℕ) (x : Vec ℕ) → Stands loads i x → length x.items ≤ f (k + i)) → total loads ≤ sum_from f k (length loads)
total_most f [] k each = omega arith
total_most f (x ∷ loads) k each =
    let here : k + 0 ≡ k = omega arith in
    let a = subst (λ (j : ℕ). length x.items ≤ f j) here (each 0 x refl) in
    let b = total_most f loads (suc k) (λ i y at. let next : k + suc i ≡ suc k + i = omega arith in subst (λ (j : ℕ). length y.items ≤ f j) next (each (suc i) y at)) in
    omega (arith, a, b)

-- loads are no more than the marks
pub loads_marked : (marks : List Bool) (classes : List ℕ) (count high low : ℕ) (loads : List (Vec ℕ)) → AreNetLoads marks classes count high low loads → total loads ≤ marked marks
loads_marked marks classes count high low loads are =
    let a = total_most (many_at 0 marks classes) loads 0 (λ i x at.
    let inside = slice_get_within loads i x at in
    let all = are.many in
    let zero_i : i ≡ 0 + i = omega arith in
    let is = ap (λ (y : Vec ℕ). length y.items) (sym (got loads i x at)) ∙ ap length (are.each i x (omega (arith, inside, all))) in
    let most = by (nat_eq high i || nat_eq low i) (marked_places 0 marks classes i) in
    subst (λ (j : ℕ). length x.items ≤ many_at 0 marks classes j) zero_i (omega (arith, is, most))) in
    let b = marked_few 0 marks classes 0 (length loads) in
    omega (arith, a, b) where
      by : (b : Bool) (xs : List ℕ) → length (if b then [] else xs) ≤ length xs
      by true xs = omega arith
      by false xs = omega arith

-- ---- marks are as many as sinks

marked_append : (ms others : List Bool) → marked (ms ++ others) ≡ marked ms + marked others
marked_append [] others = omega arith
marked_append (m ∷ ms) others = let r = marked_append ms others in omega (arith, r)

none_marked : {A : Type 0} (xs : List A) → marked (map (λ x. false) xs) ≡ 0
none_marked [] = refl
none_marked (x ∷ xs) = let r = none_marked xs in omega (arith, r)

marked_filter : {A B : Type 0} (test : A → Bool) (f : A → B) (xs : List A) → marked (map test xs) ≡ length (map f (filter test xs))
marked_filter test f [] = refl
marked_filter {A} {B} test f (x ∷ xs) = by (test x) (marked_filter test f xs) where
  by : (b : Bool) → marked (map test xs) ≡ length (map f (filter test xs))
      → (if b then 1 else 0) + marked (map test xs) ≡ length (map f (if b then x ∷ filter test xs else filter test xs))
  by true h = omega (arith, h)
  by false h = omega (arith, h)

marked_sinks : (l : Library) (is : List Instance) → marked (flat_map (pin_marks l) is) ≡ length (all_sinks l is)
marked_sinks l [] = refl
marked_sinks l (i ∷ is) =
    let a = marked_append (pin_marks l i) (flat_map (pin_marks l) is) in
    let b = marked_filter (is_sink_of (cell_of l i.model)) (pin_of i.name) i.pins in
    let d = marked_sinks l is in
    let n = length-append (instance_sinks l i) (all_sinks l is) in
    omega (arith, a, b, d, n)

marked_all : (l : Library) (n : InMemory) → marked (all_marks l n) ≡ length (all_sinks l n.instances)
marked_all l n =
    let a = marked_append (map (λ (p : Port). false) n.ports) (flat_map (pin_marks l) n.instances) in
    let b = none_marked n.ports in
    let d = marked_sinks l n.instances in
    omega (arith, a, b, d)

filter_few : {A B : Type 0} (test : A → Bool) (f : A → B) (xs : List A) → length (map f (filter test xs)) ≤ length (map f xs)
filter_few test f [] = omega arith
filter_few {A} {B} test f (x ∷ xs) = by (test x) (filter_few test f xs) where
  by : (b : Bool) → length (map f (filter test xs)) ≤ length (map f xs) → length (map f (if b then x ∷ filter test xs else filter test xs)) ≤ suc (length (map f xs))
  by true h = omega (arith, h)
  by false h = omega (arith, h)

-- sinks are no more than pins
pub sinks_few : (l : Library) (is : List Instance) → length (all_sinks l is) ≤ length (flat_map pins_of is)
sinks_few l [] = omega arith
sinks_few l (i ∷ is) =
    let a = filter_few (is_sink_of (cell_of l i.model)) (pin_of i.name) i.pins in
    let b = sinks_few l is in
    let m = length-append (instance_sinks l i) (all_sinks l is) in
    let n = length-append (pins_of i) (flat_map pins_of is) in
    omega (arith, a, b, m, n)

-- all loads are no more than the sinks
pub loads_few : (l : Library) (n : InMemory) (high low : ℕ) (loads : List (Vec ℕ)) → AreNetLoads (all_marks l n) n.classes n.count high low loads
    → total loads ≤ length (all_sinks l n.instances)
loads_few l n high low loads are = let a = loads_marked (all_marks l n) n.classes n.count high low loads are in let b = marked_all l n in omega (arith, a, b)
