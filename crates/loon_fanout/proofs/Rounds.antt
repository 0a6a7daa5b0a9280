-- Rounds by places are rounds on terminals.
use Rattle.std.proofs.Common.{◌≡◌, ◌⊎◌, inl, inr, ℕ, zero, suc, ◌+◌, ◌<◌, ◌≤◌, Bool, false, List, [], ◌∷◌, ◌++◌, map, length, refl, sym, ◌∙◌, ap, subst, arith, append-nil, append_assoc, length-append, if◌then◌else◌}
use Rattle.std.proofs.lemmas.List.Elements.{All-cons}
use Rattle.std.proofs.lemmas.Option.{slice_get_within}
use Rattle.std.specs.Global.{Vec}
use Rattle.std.specs.List.{All, flat_map}
use Rattle.vlsi_base.specs.declared.name.Name.{Name}
use Rattle.vlsi_base.specs.declared.name.Terminal.{Terminal}
use Rattle.vlsi_base.specs.Member.{In, here}
use Rattle.cell_model.specs.Cell.{Cell}
use Rattle.cell_model.specs.Library.{Library}
use Rattle.cell_model.proofs.Members.{In-right}
use Rattle.net_core.specs.Places.{Stands}
use Rattle.loon_wiring.specs.declared.repeater.Repeater.{Repeater as Parts}
use Rattle.loon_wiring.specs.declared.wiring.Wiring.{Wiring}
use Rattle.loon_fanout.specs.Sinks.{Wired, is_supply_class, sinks}
use Rattle.loon_fanout.specs.Wired.{with_group}
use Rattle.loon_wiring.specs.Repeaters.{Repeater}
use Rattle.loon_fanout.specs.Limited.{Row, with_round, AreGroups, last, next, IsLimited, within, round}
use Rattle.loon_wiring.specs.Stages.{PutsRow, once, two, PutsBehind, PutsGroups, none, one, LimitsClass, few, many, LimitsAll, done, more, IsPart}
use Rattle.loon_fanout.proofs.Picking.{AtPlaces, at_more, at_append, at_many, Halves, at_halves}
use Rattle.loon_fanout.proofs.Supplies.{is_net, long_net}
use Rattle.loon_fanout.proofs.Gates.{IsGate}
use Rattle.loon_fanout.proofs.Sinking.{all_terminals}
use Rattle.loon_fanout.proofs.Following.{Follows, none_behind}
use Rattle.loon_fanout.proofs.Grouping.{Kept, GroupDone, group_done}

-- ---- how many gates

abbrev pub gates_in : Wiring → ℕ
gates_in v = length v.reads.items

gate_counted : {A : Type 0} (xs ys : List A) (x : A) → ys ≡ xs ++ x ∷ [] → length ys ≡ length xs + 1
gate_counted xs ys x is = ap length is ∙ length-append xs (x ∷ [])

row_counted : (c : Cell) (r : Parts) (gates : ℕ) → IsPart c gates r → (v u : Wiring) (read place driven : ℕ) → PutsRow r v u read place driven → gates_in u ≡ gates_in v + gates
row_counted c r gates part v u read place driven (once single puts) =
    let size : gates ≡ 1 = part.gates ∙ ap (λ (b : Bool). if b then 2 else 1) single in
    let a = gate_counted v.reads.items u.reads.items read puts.reads in
    omega (arith, size, a)
row_counted c r gates part v u read place driven (two m other double puts again) =
    let size : gates ≡ 2 = part.gates ∙ ap (λ (b : Bool). if b then 2 else 1) double in
    let a = gate_counted v.reads.items m.reads.items read puts.reads in
    let b = gate_counted m.reads.items u.reads.items _ again.reads in
    omega (arith, size, a, b)

behind_counted : (c : Cell) (r : Parts) (gates : ℕ) → IsPart c gates r → (v u : Wiring) (class place : ℕ) (group : List ℕ) → PutsBehind r v u class group place → gates_in u ≡ gates_in v + gates
behind_counted c r gates part v u class place group h =
    ap (λ (x : Vec ℕ). length x.items) h.moved.reads ∙ row_counted c r gates part v h.middle class place h.driven h.row

groups_counted : (c : Cell) (r : Parts) (gates : ℕ) → IsPart c gates r → (limit class : ℕ) (v u : Wiring) (places inputs all : List ℕ)
    → PutsGroups r limit class v places inputs u all → gates_in v ≤ gates_in u
groups_counted c r gates part limit class v u places inputs all none = omega arith
groups_counted c r gates part limit class v u places inputs all (one {w = x} {group = group} {rest = rest} {input = input} some small full behind later) =
    let a = behind_counted c r gates part v x class input group behind in
    let b = groups_counted c r gates part limit class x u rest (inputs ++ input ∷ []) all later in
    omega (arith, a, b)

class_counted : (c : Cell) (r : Parts) (gates : ℕ) → IsPart c gates r → (limit class : ℕ) (v u : Wiring) (places : List ℕ) → LimitsClass r limit class v places u → gates_in v ≤ gates_in u
class_counted c r gates part limit class v u places (few small) = omega arith
class_counted c r gates part limit class v u places (many {w = x} {inputs = inputs} large groups later) =
    let a = groups_counted c r gates part limit class v x places [] inputs groups in
    let b = class_counted c r gates part limit class x u inputs later in
    omega (arith, a, b)

all_counted : (c : Cell) (r : Parts) (gates : ℕ) → IsPart c gates r → (limit class : ℕ) (loads : List (Vec ℕ)) (v u : Wiring) → LimitsAll r limit class loads v u → gates_in v ≤ gates_in u
all_counted c r gates part limit class loads v u done = omega arith
all_counted c r gates part limit class loads v u (more {w = x} {sinks = places} {rest = rest} limited later) =
    let a = class_counted c r gates part limit class v x places.items limited in
    let b = all_counted c r gates part limit (suc class) rest x u later in
    omega (arith, a, b)

-- ---- what is kept

pub below_or : (a b : ℕ) → (a < b) ⊎ (b ≤ a)
below_or a zero = inr (omega arith)
below_or zero (suc b) = inl (omega arith)
below_or (suc a) (suc b) = elim (below_or a b) [ inl h ↦ inl (omega (arith, h)) | inr h ↦ inr (omega (arith, h)) ]

kept_then : (l : Library) (limit class : ℕ) (w m u : Wired) → class < w.count → Kept l limit class w m → Kept l limit class m u → Kept l limit class w u
kept_then l limit class w m u low a b = record {
  old = λ k differ low_k. b.old k differ (let h = a.more in omega (arith, h, low_k)) ∙ a.old k differ low_k;
  new = λ k over. elim (below_or k m.count) [
    | inl under ↦ let is = ap length (b.old k (λ e. omega (arith, e, low, over)) under) in let h = a.new k over in omega (arith, is, h)
    | inr past ↦ b.new k past
  ];
  more = let h = a.more in let k = b.more in omega (arith, h, k);
}

kept_same : (l : Library) (limit class : ℕ) (left : List (List ℕ)) (v : Wiring) (w : Wired) → Follows l left v w → Kept l limit class w w
kept_same l limit class left v w f = record {
  old = λ k differ low_k. refl;
  new = λ k over. let e = ap length (none_behind l left v w f k over) in omega (arith, e);
  more = omega arith;
}

-- ---- a round

abbrev names_of_rows : List Row → List (List ℕ)
names_of_rows rows = flat_map (λ (r : Row). r.names) rows

pub record RoundDone (l : Library) (c : Cell) (gates limit : ℕ) (left : List (List ℕ)) (v u : Wiring) (w : Wired) (class : ℕ) (all : List ℕ) (group : List Terminal) : Type 0 where
  pub rows : List Row
  pub later : List (List ℕ)
  pub parts : left ≡ names_of_rows rows ++ later
  pub counted : gates_in u ≡ gates_in v + length (names_of_rows rows)
  pub lengths : All (λ r. length r.names ≡ gates) rows
  pub no_rows : group ≡ [] → rows ≡ []
  pub groups : 0 < length group → AreGroups limit group (map (λ r. r.group) rows)
  pub follows : Follows l later u (with_round c w class rows)
  pub firsts : List Terminal
  pub at : AtPlaces (all_terminals (with_round c w class rows)) all firsts
  pub now : sinks l (with_round c w class rows) class ≡ firsts
  pub kept : Kept l limit class w (with_round c w class rows)
  pub more : List Terminal
  pub grown : all_terminals (with_round c w class rows) ≡ all_terminals w ++ more

is_none : {A : Type 0} (xs : List A) (ps : List ℕ) (ys : List A) → AtPlaces xs ps ys → ps ≡ [] → ys ≡ []
is_none xs ps [] at e = refl
is_none xs ps (y ∷ ys) at e = let n = at_many xs ps (y ∷ ys) at in let z = ap length e in absurd (omega (arith, n, z))

module _ (l : Library) (c : Cell) (input : Name) (g : IsGate l c input) (r : Parts) (gates : ℕ) (part : IsPart c gates r) (limit class : ℕ) (some : 0 < limit) where
  no_group : (left : List (List ℕ)) (v : Wiring) (w : Wired) (inputs : List ℕ) (us is : List Terminal) → Follows l left v w → AtPlaces (all_terminals w) [] us
      → AtPlaces (all_terminals w) inputs is → sinks l w class ≡ us ++ is → RoundDone l c gates limit left v v w class inputs us
  no_group left v w inputs [] is f at at_is now = record {
    rows = [];
    later = left;
    parts = refl;
    counted = omega arith;
    lengths = λ k d low. absurd (omega (arith, low));
    no_rows = λ e. refl;
    groups = λ h. absurd (omega (arith, h));
    follows = f;
    firsts = is;
    at = at_is;
    now = now;
    kept = kept_same l limit class left v w f;
    more = [];
    grown = sym (append-nil (all_terminals w));
  }
  no_group left v w inputs (u ∷ us) is f at at_is now = absurd at

  -- a group, and the others of its round
  module _ (left : List (List ℕ)) (v x u : Wiring) (w : Wired) (all : List ℕ) (us front back behind : List Terminal) (place : ℕ)
      (d : GroupDone l c gates limit left x w class place front behind) (low : class < w.count) (step : gates_in x ≡ gates_in v + gates)
      (parts : us ≡ front ++ back) (few_front : length front ≤ limit) (some_front : 0 < length front) (full : (back ≡ []) ⊎ (length front ≡ limit))
      (rec : RoundDone l c gates limit d.later x u (with_group c w class d.names front) class all back) where
    abbrev row : Row
    row = record { names = d.names; group = front }

    groups : AreGroups limit us (front ∷ map (λ r. r.group) rec.rows)
    groups = subst (λ (ts : List Terminal). AreGroups limit ts (front ∷ map (λ r. r.group) rec.rows)) (sym parts) (by back refl) where
      by : (ts : List Terminal) → back ≡ ts → AreGroups limit (front ++ back) (front ∷ map (λ r. r.group) rec.rows)
      by [] e =
          subst (λ (ts : List Terminal). AreGroups limit ts (front ∷ map (λ r. r.group) rec.rows)) (sym (ap (λ (ts : List Terminal). front ++ ts) e ∙ append-nil front))
          (subst (λ (rs : List Row). AreGroups limit front (front ∷ map (λ r. r.group) rs)) (sym (rec.no_rows e)) (last some_front few_front))
      by (t ∷ ts) e = elim full [
        | inl none_left ↦ absurd (let z = ap length (sym e ∙ none_left) in omega (arith, z))
        | inr whole ↦ next whole (rec.groups (let z = ap length e in omega (arith, z)))
      ]

    one_group : RoundDone l c gates limit left v u w class all us
    one_group = record {
      rows = row ∷ rec.rows;
      later = rec.later;
      parts = d.parts ∙ ap (λ (ns : List (List ℕ)). d.names ++ ns) rec.parts ∙ sym (append_assoc d.names (names_of_rows rec.rows) rec.later);
      counted = let a = rec.counted in let b = d.many in let n = length-append d.names (names_of_rows rec.rows) in omega (arith, a, b, n, step);
      lengths = All-cons (λ (y : Row). length y.names ≡ gates) row rec.rows d.many rec.lengths;
      no_rows = λ e. absurd (let z = ap length (sym e ∙ parts) in let n = length-append front back in omega (arith, z, n, some_front));
      groups = λ h. groups;
      follows = rec.follows;
      firsts = rec.firsts;
      at = rec.at;
      now = rec.now;
      kept = kept_then l limit class w (with_group c w class d.names front) (with_round c w class (row ∷ rec.rows)) low d.kept rec.kept;
      more = d.more ++ rec.more;
      grown = rec.grown ∙ ap (λ (ts : List Terminal). ts ++ rec.more) d.grown ∙ append_assoc (all_terminals w) d.more rec.more;
    }

  round_done : (left : List (List ℕ)) (v u : Wiring) (w : Wired) (places inputs all : List ℕ) (us is : List Terminal) → PutsGroups r limit class v places inputs u all
      → Follows l left v w → AtPlaces (all_terminals w) places us → AtPlaces (all_terminals w) inputs is → sinks l w class ≡ us ++ is → class < w.count
      → is_supply_class w class ≡ false → gates_in u ≤ gates_in v + length left → RoundDone l c gates limit left v u w class all us
  round_done left v u w places inputs all us is none f at at_is now low net enough = no_group left v w inputs us is f at at_is now
  round_done left v u w places inputs all us is (one {w = x} {group = group} {rest = rest} {input = place} some_group small full behind others) f at at_is now low net enough =
      one_group left v x u w all us h.front h.back (h.back ++ is) place d low step h.parts few_front some_front full_front
      (round_done d.later x u (with_group c w class d.names h.front) rest (inputs ++ place ∷ []) all h.back (is ++ d.first ∷ []) others d.follows
      (grown rest h.back h.second)
      (at_append (all_terminals (with_group c w class d.names h.front)) inputs (place ∷ []) is (d.first ∷ []) (grown inputs is at_is) (d.at, tt))
      (d.now ∙ append_assoc h.back is (d.first ∷ []))
      (let k = d.kept.more in omega (arith, k, low))
      (is_net l (with_group c w class d.names h.front) class d.first
      (subst (λ (ts : List Terminal). In d.first ts) (sym d.now) (In-right d.first (h.back ++ is) (d.first ∷ []) here)))
      (let a = ap length d.parts in let n = length-append d.names d.later in let b = d.many in omega (arith, a, n, b, step, enough)))
    where
      h : Halves (all_terminals w) group rest us
      h = at_halves (all_terminals w) group rest us at

      step : gates_in x ≡ gates_in v + gates
      step = behind_counted c r gates part v x class place group behind

      more_gates : gates_in x ≤ gates_in u
      more_gates = groups_counted c r gates part limit class x u rest (inputs ++ place ∷ []) all others

      front_many : length group ≡ length h.front
      front_many = at_many (all_terminals w) group h.front h.first

      few_front : length h.front ≤ limit
      few_front = let n = front_many in omega (arith, n, small)

      some_front : 0 < length h.front
      some_front = let n = front_many in omega (arith, n, some_group)

      full_front : (h.back ≡ []) ⊎ (length h.front ≡ limit)
      full_front = elim full [
        | inl none_left ↦ inl (is_none (all_terminals w) rest h.back h.second none_left)
        | inr whole ↦ inr (sym front_many ∙ whole)
      ]

      d : GroupDone l c gates limit left x w class place h.front (h.back ++ is)
      d = group_done l c input g r gates part limit left v x w class place group h.front (h.back ++ is) low net
          (let a = step in let b = more_gates in omega (arith, a, b, enough)) few_front some f h.first
          (now ∙ ap (λ (ts : List Terminal). ts ++ is) h.parts ∙ append_assoc h.front h.back is) behind

      grown : (ps : List ℕ) (ts : List Terminal) → AtPlaces (all_terminals w) ps ts → AtPlaces (all_terminals (with_group c w class d.names h.front)) ps ts
      grown ps ts k = subst (λ (ys : List Terminal). AtPlaces ys ps ts) (sym d.grown) (at_more (all_terminals w) d.more ps ts k)

-- ---- the rounds on a class

pub record ClassDone (l : Library) (limit : ℕ) (b : Repeater) (left : List (List ℕ)) (v u : Wiring) (w : Wired) (class : ℕ) : Type 0 where
  pub used : List (List ℕ)
  pub later : List (List ℕ)
  pub parts : left ≡ used ++ later
  pub counted : gates_in u ≡ gates_in v + length used
  pub end : Wired
  pub follows : Follows l later u end
  pub steps : (names : List (List ℕ)) (k : Wired) → IsLimited l limit b names end k → IsLimited l limit b (used ++ names) w k
  pub small : length (sinks l end class) ≤ limit
  pub kept : Kept l limit class w end
  pub more : List Terminal
  pub grown : all_terminals end ≡ all_terminals w ++ more

-- ---- all classes

pub record AllDone (l : Library) (limit : ℕ) (b : Repeater) (left : List (List ℕ)) (v u : Wiring) (w : Wired) : Type 0 where
  pub used : List (List ℕ)
  pub later : List (List ℕ)
  pub parts : left ≡ used ++ later
  pub counted : gates_in u ≡ gates_in v + length used
  pub end : Wired
  pub follows : Follows l later u end
  pub limited : IsLimited l limit b used w end

-- the loads that are left hold the places of the sinks
pub record AreLeft (l : Library) (limit : ℕ) (loads : List (Vec ℕ)) (class : ℕ) (w : Wired) : Type 0 where
  pub each : (i : ℕ) (places : Vec ℕ) → Stands loads i places → AtPlaces (all_terminals w) places.items (sinks l w (class + i))
  pub within : class + length loads ≤ w.count
  pub earlier : (k : ℕ) → k < class → length (sinks l w k) ≤ limit
  pub behind : (k : ℕ) → class + length loads ≤ k → length (sinks l w k) ≤ limit

next_left : (l : Library) (limit : ℕ) (places : Vec ℕ) (loads : List (Vec ℕ)) (class : ℕ) (w end : Wired) (rest : List Terminal) → AreLeft l limit (places ∷ loads) class w
    → length (sinks l end class) ≤ limit → Kept l limit class w end → all_terminals end ≡ all_terminals w ++ rest → AreLeft l limit loads (suc class) end
next_left l limit places loads class w end rest h small kept grown = record {
  each = each;
  within = let a = h.within in let k = kept.more in omega (arith, a, k);
  earlier = earlier;
  behind = behind;
} where
  within_one : class < w.count
  within_one = let a = h.within in omega (arith, a)

  each : (i : ℕ) (ps : Vec ℕ) → Stands loads i ps → AtPlaces (all_terminals end) ps.items (sinks l end (suc class + i))
  each i ps at =
      let inside = slice_get_within loads i ps at in
      let is : class + suc i ≡ suc class + i = omega arith in
      let old = kept.old (suc class + i) (λ e. omega (arith, e)) (let a = h.within in omega (arith, a, inside)) in
      subst (λ (ts : List Terminal). AtPlaces (all_terminals end) ps.items ts) (ap (sinks l w) is ∙ sym old)
      (subst (λ (ys : List Terminal). AtPlaces ys ps.items (sinks l w (class + suc i))) (sym grown)
      (at_more (all_terminals w) rest ps.items (sinks l w (class + suc i)) (h.each (suc i) ps at)))

  earlier : (k : ℕ) → k < suc class → length (sinks l end k) ≤ limit
  earlier k under = elim (below_or k class) [
    | inl less ↦ let is = ap length (kept.old k (λ e. omega (arith, e, less)) (let a = within_one in omega (arith, a, less))) in let e = h.earlier k less in omega (arith, is, e)
    | inr over ↦ let same : class ≡ k = omega (arith, over, under) in subst (λ (j : ℕ). length (sinks l end j) ≤ limit) same small
  ]

  behind : (k : ℕ) → suc class + length loads ≤ k → length (sinks l end k) ≤ limit
  behind k past = elim (below_or k w.count) [
    | inl less ↦ let is = ap length (kept.old k (λ e. omega (arith, e, past)) less) in let e = h.behind k (omega (arith, past)) in omega (arith, is, e)
    | inr over ↦ kept.new k over
  ]

-- a round, and the others on its class
module _ (l : Library) (limit : ℕ) (b : Repeater) (left : List (List ℕ)) (v x u : Wiring) (w : Wired) (class : ℕ) (all : List ℕ) (low : class < w.count) (long : limit < length (sinks l w class))
    (earlier : (k : ℕ) → k < class → length (sinks l w k) ≤ limit) (d : RoundDone l b.cell b.gates limit left v x w class all (sinks l w class))
    (rec : ClassDone l limit b d.later x u (with_round b.cell w class d.rows) class) where
  one_round : ClassDone l limit b left v u w class
  one_round = record {
    used = names_of_rows d.rows ++ rec.used;
    later = rec.later;
    parts = d.parts ∙ ap (λ (ns : List (List ℕ)). names_of_rows d.rows ++ ns) rec.parts ∙ sym (append_assoc (names_of_rows d.rows) rec.used rec.later);
    counted = let a = d.counted in let e = rec.counted in let n = length-append (names_of_rows d.rows) rec.used in omega (arith, a, e, n);
    end = rec.end;
    follows = rec.follows;
    steps = λ names k h. subst (λ (ns : List (List ℕ)). IsLimited l limit b ns w k) (sym (append_assoc (names_of_rows d.rows) rec.used names))
        (round class d.rows long earlier (d.groups (omega (arith, long))) d.lengths (rec.steps names k h));
    small = rec.small;
    kept = kept_then l limit class w (with_round b.cell w class d.rows) rec.end low d.kept rec.kept;
    more = d.more ++ rec.more;
    grown = rec.grown ∙ ap (λ (ts : List Terminal). ts ++ rec.more) d.grown ∙ append_assoc (all_terminals w) d.more rec.more;
  }

-- a class, and those behind it
all_step : (l : Library) (limit : ℕ) (b : Repeater) (left : List (List ℕ)) (v x u : Wiring) (w : Wired) (class : ℕ) → (d : ClassDone l limit b left v x w class)
    → AllDone l limit b d.later x u d.end → AllDone l limit b left v u w
all_step l limit b left v x u w class d rec = record {
  used = d.used ++ rec.used;
  later = rec.later;
  parts = d.parts ∙ ap (λ (ns : List (List ℕ)). d.used ++ ns) rec.parts ∙ sym (append_assoc d.used rec.used rec.later);
  counted = let a = d.counted in let e = rec.counted in let n = length-append d.used rec.used in omega (arith, a, e, n);
  end = rec.end;
  follows = rec.follows;
  limited = d.steps rec.used rec.end rec.limited;
}

module _ (l : Library) (b : Repeater) (input : Name) (g : IsGate l b.cell input) (r : Parts) (part : IsPart b.cell b.gates r) (limit : ℕ) (some : 0 < limit) where
  class_done : (class : ℕ) (left : List (List ℕ)) (v u : Wiring) (w : Wired) (places : List ℕ) → LimitsClass r limit class v places u → Follows l left v w
      → AtPlaces (all_terminals w) places (sinks l w class) → class < w.count → ((k : ℕ) → k < class → length (sinks l w k) ≤ limit)
      → gates_in u ≤ gates_in v + length left → ClassDone l limit b left v u w class
  class_done class left v u w places (few small) f at low earlier enough = record {
    used = [];
    later = left;
    parts = refl;
    counted = omega arith;
    end = w;
    follows = f;
    steps = λ names k h. h;
    small = let n = at_many (all_terminals w) places (sinks l w class) at in omega (arith, n, small);
    kept = kept_same l limit class left v w f;
    more = [];
    grown = sym (append-nil (all_terminals w));
  }
  class_done class left v u w places (many {w = x} {inputs = inputs} large puts others) f at low earlier enough =
      one_round l limit b left v x u w class inputs low long earlier d
      (class_done class d.later x u (with_round b.cell w class d.rows) inputs others d.follows
      (subst (λ (ts : List Terminal). AtPlaces (all_terminals (with_round b.cell w class d.rows)) inputs ts) (sym d.now) d.at)
      (let k = d.kept.more in omega (arith, k, low))
      (λ k under. let is = ap length (d.kept.old k (λ e. omega (arith, e, under)) (omega (arith, under, low))) in let h = earlier k under in omega (arith, is, h))
      (let a = ap length d.parts in let n = length-append (names_of_rows d.rows) d.later in let e = d.counted in omega (arith, a, n, e, enough))) where
        long : limit < length (sinks l w class)
        long = let n = at_many (all_terminals w) places (sinks l w class) at in omega (arith, n, large)

        d : RoundDone l b.cell b.gates limit left v x w class inputs (sinks l w class)
        d = round_done l b.cell input g r b.gates part limit class some left v x w places [] inputs (sinks l w class) [] puts f at tt (sym (append-nil (sinks l w class))) low
            (long_net l w class limit long) (let a = class_counted b.cell r b.gates part limit class x u inputs others in omega (arith, a, enough))

  pub all_done : (class : ℕ) (loads : List (Vec ℕ)) (left : List (List ℕ)) (v u : Wiring) (w : Wired) → LimitsAll r limit class loads v u → Follows l left v w → AreLeft l limit loads class w
      → gates_in u ≤ gates_in v + length left → AllDone l limit b left v u w
  all_done class loads left v u w done f h enough = record {
    used = [];
    later = left;
    parts = refl;
    counted = omega arith;
    end = w;
    follows = f;
    limited = within all_few;
  } where
    all_few : (k : ℕ) → length (sinks l w k) ≤ limit
    all_few k = elim (below_or k class) [ inl less ↦ h.earlier k less | inr over ↦ h.behind k (omega (arith, over)) ]
  all_done class loads left v u w (more {w = x} {sinks = places} {rest = rest} this others) f h enough =
      all_step l limit b left v x u w class d
      (all_done (suc class) rest d.later x u d.end others d.follows (next_left l limit places rest class w d.end d.more h d.small d.kept d.grown)
      (let a = ap length d.parts in let n = length-append d.used d.later in let e = d.counted in omega (arith, a, n, e, enough))) where
        at_class : class + 0 ≡ class
        at_class = omega arith

        d : ClassDone l limit b left v x w class
        d = class_done class left v x w places.items this f
            (subst (λ (k : ℕ). AtPlaces (all_terminals w) places.items (sinks l w k)) at_class (h.each 0 places refl))
            (let a = h.within in omega (arith, a)) h.earlier
            (let a = all_counted b.cell r b.gates part limit (suc class) rest x u others in omega (arith, a, enough))
