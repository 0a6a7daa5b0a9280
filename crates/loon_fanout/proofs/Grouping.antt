-- A group of sinks that is put behind gates: what a wiring that follows has then.
use Rattle.std.proofs.Common.{◌≡◌, ◌≢◌, ℕ, zero, suc, ◌+◌, ◌-◌, ◌<◌, ◌≤◌, Bool, true, false, ◌||◌, List, [], ◌∷◌, ◌++◌, map, length, None, Some, refl, sym, ◌∙◌, ap, subst, arith, append-nil, append_assoc, nat_eq, eqb-true, if◌then◌else◌}
use Rattle.std.specs.Prelude.{slice_set}
use Rattle.std.specs.Global.{Vec}
use Rattle.std.specs.List.{list_any}
use Rattle.vlsi_base.specs.declared.name.Name.{Name}
use Rattle.vlsi_base.specs.declared.name.Terminal.{Terminal}
use Rattle.vlsi_base.specs.Names.{vdd, vss}
use Rattle.vlsi_base.specs.Member.{In, here, AllDifferent}
use Rattle.machine_core.specs.Machine.{names_of}
use Rattle.cell_model.specs.Cell.{Cell}
use Rattle.cell_model.specs.Library.{Library}
use Rattle.cell_model.proofs.Members.{In-left, In-right}
use Rattle.cell_pins.specs.Pins.{all_ports}
use Rattle.cell_pins.proofs.Ports.{in_filter}
use Rattle.cell_pins.proofs.Sound.{member_at}
use Rattle.net_core.specs.Netlist.{port, pin_of}
use Rattle.net_core.specs.Places.{Stands}
use Rattle.net_core.proofs.Standing.{stands_left}
use Rattle.loon_wiring.specs.declared.repeater.Tie.{Tie}
use Rattle.loon_wiring.specs.declared.repeater.Repeater.{Repeater as Parts}
use Rattle.loon_wiring.specs.declared.wiring.Wiring.{Wiring}
use Rattle.loon_fanout.specs.Sinks.{Wired, is_supply_class, sinks, is_same_terminal}
use Rattle.loon_fanout.specs.Wired.{with_gate, with_row, with_moved, with_group}
use Rattle.loon_wiring.specs.Stages.{tie_of, next_class, PutsGate, PutsRow, once, two, set_places, Moves, PutsBehind, IsPart}
use Rattle.loon_fanout.proofs.Terminals.{terminal_same, terminal_itself}
use Rattle.loon_fanout.proofs.Picking.{is_false, not_any, map_same, AtPlaces, at_more}
use Rattle.loon_fanout.proofs.Supplies.{eq_itself, eq_not, is_net, sink_reads}
use Rattle.loon_fanout.proofs.Gates.{IsGate}
use Rattle.loon_fanout.proofs.Sinking.{all_terminals, all_sinks, Owned, sink_owned, its_input, Moved, sinks_moved}
use Rattle.loon_fanout.proofs.Following.{Follows, gate_follows, gate_grows, gate_place, gate_sinks, none_behind, behind_net}

-- ---- the sinks that a gate adds

its_none : (name : List ℕ) (input : Name) (read k : ℕ) → read ≢ k → its_input name input read k ≡ []
its_none name input read k differ = ap (λ (b : Bool). if b then pin_of name input ∷ [] else []) (eq_not read k differ)

its_one : (name : List ℕ) (input : Name) (k : ℕ) → its_input name input k k ≡ pin_of name input ∷ []
its_one name input k = ap (λ (b : Bool). if b then pin_of name input ∷ [] else []) (eq_itself k)

its_few : (name : List ℕ) (input : Name) (read k : ℕ) → length (its_input name input read k) ≤ 1
its_few name input read k = by (nat_eq read k) where
  by : (b : Bool) → length (if b then pin_of name input ∷ [] else []) ≤ 1
  by true = omega arith
  by false = omega arith

nothing : {A : Type 0} (xs ys zs : List A) → xs ≡ [] → ys ≡ [] → zs ≡ xs ++ ys → zs ≡ []
nothing {A} xs ys zs p q r = r ∙ ap (λ (ts : List A). ts ++ ys) p ∙ q

same_still : {A : Type 0} (xs ys zs : List A) → ys ≡ [] → zs ≡ xs ++ ys → zs ≡ xs
same_still {A} xs ys zs q r = r ∙ ap (λ (ts : List A). xs ++ ts) q ∙ append-nil xs

-- ---- a row of gates

pub record RowDone (l : Library) (c : Cell) (gates : ℕ) (left : List (List ℕ)) (middle : Wiring) (w : Wired) (class place driven : ℕ) : Type 0 where
  pub names : List (List ℕ)
  pub later : List (List ℕ)
  pub parts : left ≡ names ++ later
  pub many : length names ≡ gates
  pub follows : Follows l later middle (with_row c w class names)
  pub last : (with_row c w class names).count ≡ suc driven
  pub behind : w.count ≤ driven
  pub first : Terminal
  pub longer : sinks l (with_row c w class names) class ≡ sinks l w class ++ first ∷ []
  pub old : (k : ℕ) → k ≢ class → k < w.count → sinks l (with_row c w class names) k ≡ sinks l w k
  pub new : (k : ℕ) → w.count ≤ k → length (sinks l (with_row c w class names) k) ≤ 1
  pub empty : sinks l (with_row c w class names) driven ≡ []
  pub net : is_supply_class (with_row c w class names) driven ≡ false
  pub at : Stands (all_terminals (with_row c w class names)) place first
  pub more : List Terminal
  pub grown : all_terminals (with_row c w class names) ≡ all_terminals w ++ more

module _ (l : Library) (c : Cell) (input : Name) (g : IsGate l c input) (v : Wiring) (w : Wired) (class : ℕ) (low : class < w.count)
    (net : is_supply_class w class ≡ false) (ties : List Tie) (are : ties ≡ map tie_of (all_ports c)) where
  one_gate : (later : List (List ℕ)) (name : List ℕ) (u : Wiring) (place : ℕ) → Follows l (name ∷ later) v w → PutsGate ties v u class place
      → RowDone l c 1 (name ∷ later) u w class place (next_class v)
  one_gate later name u place f puts = record {
    names = name ∷ [];
    later = later;
    parts = refl;
    many = refl;
    follows = gate_follows l c input g later name v u w class place ties f are puts low;
    last = ap suc f.count;
    behind = let a = f.count in omega (arith, a);
    first = pin_of name input;
    longer = step class ∙ ap (λ (ts : List Terminal). sinks l w class ++ ts) (its_one name input class);
    old = λ k differ _. same_still (sinks l w k) (its_input name input class k) (sinks l (with_gate c w class name) k) (its_none name input class k (λ e. differ (sym e))) (step k);
    new = λ k over. let e = ap length (none k over) in omega (arith, e);
    empty = none (next_class v) (let a = f.count in omega (arith, a));
    net = behind_net l (name ∷ later) v w f (next_class v) (let a = f.count in omega (arith, a));
    at = gate_place l c input g later name v u w class place ties f are puts low;
    more = map (pin_of name) (names_of (all_ports c));
    grown = gate_grows l c input g later name v u w class place ties f are puts low;
  } where
    step : (k : ℕ) → sinks l (with_gate c w class name) k ≡ sinks l w k ++ its_input name input class k
    step k = gate_sinks l c input g later name v u w class place ties f are puts low net k

    none : (k : ℕ) → w.count ≤ k → sinks l (with_gate c w class name) k ≡ []
    none k over =
        nothing (sinks l w k) (its_input name input class k) (sinks l (with_gate c w class name) k) (none_behind l (name ∷ later) v w f k over)
        (its_none name input class k (λ e. omega (arith, e, low, over))) (step k)

  two_gates : (later : List (List ℕ)) (name next : List ℕ) (m u : Wiring) (place other : ℕ) → Follows l (name ∷ next ∷ later) v w → PutsGate ties v m class place
      → PutsGate ties m u (next_class v) other → RowDone l c 2 (name ∷ next ∷ later) u w class place (next_class m)
  two_gates later name next m u place other f puts again = record {
    names = name ∷ next ∷ [];
    later = later;
    parts = refl;
    many = refl;
    follows = gate_follows l c input g later next m u (with_gate c w class name) w.count other ties f1 are puts2 low1;
    last = ap suc f1.count;
    behind = let a = f1.count in omega (arith, a);
    first = pin_of name input;
    longer =
        same_still (sinks l (with_gate c w class name) class) (its_input next input w.count class) (sinks l (with_gate c (with_gate c w class name) w.count next) class) (its_none next input w.count class (λ e. omega (arith, e, low))) (second class)
        ∙ step class ∙ ap (λ (ts : List Terminal). sinks l w class ++ ts) (its_one name input class);
    old = λ k differ low_k.
        same_still (sinks l (with_gate c w class name) k) (its_input next input w.count k) (sinks l (with_gate c (with_gate c w class name) w.count next) k) (its_none next input w.count k (λ e. omega (arith, e, low_k))) (second k)
        ∙ same_still (sinks l w k) (its_input name input class k) (sinks l (with_gate c w class name) k) (its_none name input class k (λ e. differ (sym e))) (step k);
    new = λ k over.
        let e = ap length (second k ∙ ap (λ (ts : List Terminal). ts ++ its_input next input w.count k) (none k over)) in
        let h = its_few next input w.count k in
        omega (arith, e, h);
    empty =
        nothing (sinks l (with_gate c w class name) (next_class m)) (its_input next input w.count (next_class m)) (sinks l (with_gate c (with_gate c w class name) w.count next) (next_class m)) (none (next_class m) (let a = f1.count in omega (arith, a)))
        (its_none next input w.count (next_class m) (λ e. let a = f1.count in omega (arith, a, e))) (second (next_class m));
    net = behind_net l (name ∷ next ∷ later) v w f (next_class m) (let a = f1.count in omega (arith, a));
    at = subst (λ (ts : List Terminal). Stands ts place (pin_of name input)) (sym grown2)
        (stands_left (all_terminals (with_gate c w class name)) (map (pin_of next) (names_of (all_ports c))) place (pin_of name input) (gate_place l c input g (next ∷ later) name v m w class place ties f are puts low));
    more = map (pin_of name) (names_of (all_ports c)) ++ (map (pin_of next) (names_of (all_ports c)));
    grown =
        grown2 ∙ ap (λ (ts : List Terminal). ts ++ (map (pin_of next) (names_of (all_ports c)))) (gate_grows l c input g (next ∷ later) name v m w class place ties f are puts low)
        ∙ append_assoc (all_terminals w) (map (pin_of name) (names_of (all_ports c))) (map (pin_of next) (names_of (all_ports c)));
  } where
    f1 : Follows l (next ∷ later) m (with_gate c w class name)
    f1 = gate_follows l c input g (next ∷ later) name v m w class place ties f are puts low

    puts2 : PutsGate ties m u w.count other
    puts2 = subst (λ (k : ℕ). PutsGate ties m u k other) (sym f.count) again

    low1 : w.count < suc w.count
    low1 = omega arith

    grown2 : all_terminals (with_gate c (with_gate c w class name) w.count next) ≡ all_terminals (with_gate c w class name) ++ (map (pin_of next) (names_of (all_ports c)))
    grown2 = gate_grows l c input g later next m u (with_gate c w class name) w.count other ties f1 are puts2 low1

    step : (k : ℕ) → sinks l (with_gate c w class name) k ≡ sinks l w k ++ its_input name input class k
    step k = gate_sinks l c input g (next ∷ later) name v m w class place ties f are puts low net k

    second : (k : ℕ) → sinks l (with_gate c (with_gate c w class name) w.count next) k ≡ sinks l (with_gate c w class name) k ++ its_input next input w.count k
    second k =
        gate_sinks l c input g later next m u (with_gate c w class name) w.count other ties f1 are puts2 low1
        (behind_net l (name ∷ next ∷ later) v w f w.count (omega arith)) k

    none : (k : ℕ) → w.count ≤ k → sinks l (with_gate c w class name) k ≡ []
    none k over =
        nothing (sinks l w k) (its_input name input class k) (sinks l (with_gate c w class name) k) (none_behind l (name ∷ next ∷ later) v w f k over)
        (its_none name input class k (λ e. omega (arith, e, low, over))) (step k)

pub row_done : (l : Library) (c : Cell) (input : Name) → IsGate l c input → (r : Parts) (gates : ℕ) → IsPart c gates r → (left : List (List ℕ)) (v u : Wiring) (w : Wired) (class place driven : ℕ)
    → class < w.count → is_supply_class w class ≡ false → gates ≤ length left → Follows l left v w → PutsRow r v u class place driven → RowDone l c gates left u w class place driven
row_done l c input g r gates part left v u w class place driven low net enough f (once single puts) =
    let one : gates ≡ 1 = part.gates ∙ ap (λ (b : Bool). if b then 2 else 1) single in
    subst (λ (n : ℕ). RowDone l c n left u w class place (next_class v)) (sym one) (by left (omega (arith, enough, one)) f) where
      by : (names : List (List ℕ)) → 1 ≤ length names → Follows l names v w → RowDone l c 1 names u w class place (next_class v)
      by [] h f = absurd (omega (arith, h))
      by (name ∷ later) h f = one_gate l c input g v w class low net r.ties.items part.ties later name u place f puts
row_done l c input g r gates part left v u w class place driven low net enough f (two m other double puts again) =
    let both : gates ≡ 2 = part.gates ∙ ap (λ (b : Bool). if b then 2 else 1) double in
    subst (λ (n : ℕ). RowDone l c n left u w class place (next_class m)) (sym both) (by left (omega (arith, enough, both)) f) where
      by : (names : List (List ℕ)) → 2 ≤ length names → Follows l names v w → RowDone l c 2 names u w class place (next_class m)
      by [] h f = absurd (omega (arith, h))
      by (name ∷ []) h f = absurd (omega (arith, h))
      by (name ∷ next ∷ later) h f = two_gates l c input g v w class low net r.ties.items part.ties later name next m u place other f puts again

-- ---- terminals that are moved

differs : (t u : Terminal) → (t ≡ u → ⊥) → is_same_terminal t u ≡ false
differs t u apart = is_false (is_same_terminal t u) (λ e. apart (terminal_same t u e))

set_one : (f : Terminal → ℕ) (ts : List Terminal) (p : ℕ) (u : Terminal) (k : ℕ) → AllDifferent ts → Stands ts p u
    → slice_set (map f ts) p k ≡ map (λ t. if is_same_terminal t u then k else f t) ts
set_one f [] p u k d at = absurd cc
set_one f (t ∷ ts) zero u k d at =
    let same : t ≡ u = cc in
    let yes : is_same_terminal t u ≡ true = subst (λ (x : Terminal). is_same_terminal t x ≡ true) same (terminal_itself t) in
    ap (λ (j : ℕ). j ∷ map f ts) (sym (ap (λ (b : Bool). if b then k else f t) yes))
    ∙ ap (λ (js : List ℕ). (if is_same_terminal t u then k else f t) ∷ js)
    (map_same f (λ x. if is_same_terminal x u then k else f x) ts (λ x i.
    sym (ap (λ (b : Bool). if b then k else f x) (differs x u (λ e. d.0 (subst (λ (y : Terminal). In y ts) (e ∙ sym same) i))))))
set_one f (t ∷ ts) (suc p) u k d at =
    ap (λ (j : ℕ). j ∷ slice_set (map f ts) p k)
    (sym (ap (λ (b : Bool). if b then k else f t) (differs t u (λ e. d.0 (subst (λ (y : Terminal). In y ts) (sym e) (member_at ts p u at))))))
    ∙ ap (λ (js : List ℕ). (if is_same_terminal t u then k else f t) ∷ js) (set_one f ts p u k d.1 at)

set_all : (f : Terminal → ℕ) (ts : List Terminal) (ps : List ℕ) (us : List Terminal) (k : ℕ) → AllDifferent ts → AtPlaces ts ps us
    → set_places (map f ts) ps k ≡ map (λ t. if list_any (is_same_terminal t) us then k else f t) ts
set_all f ts [] [] k d at = refl
set_all f ts [] (u ∷ us) k d at = absurd at
set_all f ts (p ∷ ps) [] k d at = absurd at
set_all f ts (p ∷ ps) (u ∷ us) k d at =
    ap (λ (cs : List ℕ). set_places cs ps k) (set_one f ts p u k d at.0)
    ∙ set_all (λ t. if is_same_terminal t u then k else f t) ts ps us k d at.1
    ∙ map_same (λ t. if list_any (is_same_terminal t) us then k else if is_same_terminal t u then k else f t)
    (λ t. if is_same_terminal t u || list_any (is_same_terminal t) us then k else f t) ts
    (λ t i. by (f t) (is_same_terminal t u) (list_any (is_same_terminal t) us)) where
      by : (j : ℕ) (a b : Bool) → (if b then k else if a then k else j) ≡ (if a || b then k else j)
      by j true true = refl
      by j true false = refl
      by j false true = refl
      by j false false = refl

-- ---- a group

-- what is done on one class leaves the others as they were, and gives classes with few sinks
pub record Kept (l : Library) (limit class : ℕ) (w u : Wired) : Type 0 where
  pub old : (k : ℕ) → k ≢ class → k < w.count → sinks l u k ≡ sinks l w k
  pub new : (k : ℕ) → w.count ≤ k → length (sinks l u k) ≤ limit
  pub more : w.count ≤ u.count

pub record GroupDone (l : Library) (c : Cell) (gates limit : ℕ) (left : List (List ℕ)) (next : Wiring) (w : Wired) (class place : ℕ) (group rest : List Terminal) : Type 0 where
  pub names : List (List ℕ)
  pub later : List (List ℕ)
  pub parts : left ≡ names ++ later
  pub many : length names ≡ gates
  pub follows : Follows l later next (with_group c w class names group)
  pub first : Terminal
  pub now : sinks l (with_group c w class names group) class ≡ rest ++ first ∷ []
  pub kept : Kept l limit class w (with_group c w class names group)
  pub at : Stands (all_terminals (with_group c w class names group)) place first
  pub more : List Terminal
  pub grown : all_terminals (with_group c w class names group) ≡ all_terminals w ++ more

module _ (l : Library) (c : Cell) (gates limit : ℕ) (left : List (List ℕ)) (m next : Wiring) (w : Wired) (class place driven : ℕ) (group rest : List Terminal) (places : List ℕ)
    (r : RowDone l c gates left m w class place driven) (moves : Moves m next places driven) (at : AtPlaces (all_terminals w) places group)
    (has : sinks l w class ≡ group ++ rest) (low : class < w.count) (small : length group ≤ limit) (some : 0 < limit) where
  abbrev row : Wired
  row = with_row c w class r.names

  is_last : row.count - 1 ≡ driven
  is_last = let a = r.last in omega (arith, a)

  apart : class ≢ driven
  apart e = let a = r.behind in omega (arith, a, e, low)

  owned : (t : Terminal) → In t group → Owned l w t
  owned t i = sink_owned l w t (in_filter (λ (u : Terminal). nat_eq (w.class u) class) (all_sinks l w) t
      (sink_reads l w class t (subst (λ (ts : List Terminal). In t ts) (sym has) (In-left t group rest i)))).0

  no_port : (name : Name) → list_any (is_same_terminal (port name)) group ≡ false
  no_port name = not_any (is_same_terminal (port name)) group (λ t i e.
      let o = owned t i in
      let same : port name ≡ pin_of o.owner.name o.pin = terminal_same (port name) t e ∙ sym o.is in
      let wrong : None ≡ Some o.owner.name = ap (λ (x : Terminal). x.instance) same in absurd (cc wrong))

  class_of_port : (name : Name) → (with_moved group row).class (port name) ≡ row.class (port name)
  class_of_port name = ap (λ (b : Bool). if b then row.count - 1 else row.class (port name)) (no_port name)

  row_net : is_supply_class row class ≡ false
  row_net = is_net l row class r.first (subst (λ (ts : List Terminal). In r.first ts) (sym r.longer) (In-right r.first (sinks l w class) (r.first ∷ []) here))

  moved : Moved l row group (rest ++ r.first ∷ []) class driven
  moved = sinks_moved l row group (rest ++ r.first ∷ []) class driven is_last apart
      (r.longer ∙ ap (λ (ts : List Terminal). ts ++ r.first ∷ []) has ∙ append_assoc group rest (r.first ∷ [])) r.empty r.follows.sinks_differ
      (class_of_port vdd) (class_of_port vss) row_net r.net

  placed : AtPlaces (all_terminals row) places group
  placed = subst (λ (ts : List Terminal). AtPlaces ts places group) (sym r.grown) (at_more (all_terminals w) r.more places group at)

  below : (t : Terminal) → In t (all_terminals row) → (with_moved group row).class t < row.count
  below t i = by (list_any (is_same_terminal t) group) where
    by : (b : Bool) → (if b then row.count - 1 else row.class t) < row.count
    by true = let a = r.last in omega (arith, a)
    by false = r.follows.below t i

  follows : Follows l r.later next (with_moved group row)
  follows = record {
    classes =
        moves.classes
        ∙ ap (λ (ks : List ℕ). set_places ks places driven) r.follows.classes
        ∙ set_all row.class (all_terminals row) places group driven r.follows.differ placed
        ∙ ap (λ (k : ℕ). map (λ t. if list_any (is_same_terminal t) group then k else row.class t) (all_terminals row)) (sym is_last);
    count =
        let a = r.follows.count in let b = moves.first in let d = ap (λ (x : Vec ℕ). length x.items) moves.reads in
        (let e : row.count ≡ next.first + length next.reads.items = omega (arith, a, b, d) in e);
    high = class_of_port vdd ∙ r.follows.high ∙ sym moves.high;
    low = class_of_port vss ∙ r.follows.low ∙ sym moves.low;
    below = below;
    differ = r.follows.differ;
    sinks_differ = r.follows.sinks_differ;
    names = r.follows.names;
    on_vdd = r.follows.on_vdd;
    on_vss = r.follows.on_vss;
  }

  new_few : (k : ℕ) → w.count ≤ k → length (sinks l (with_moved group row) k) ≤ limit
  new_few k over = by (nat_eq k driven) refl where
    by : (b : Bool) → nat_eq k driven ≡ b → length (sinks l (with_moved group row) k) ≤ limit
    by true e =
        let same : k ≡ driven = eqb-true k driven e in
        let is = ap length (ap (sinks l (with_moved group row)) same ∙ moved.gone) in omega (arith, is, small)
    by false e =
        let is = ap length (moved.other k (λ h. omega (arith, h, low, over)) (λ h. let y = eq_itself k in
        let wrong : true ≡ false = sym y ∙ ap (nat_eq k) h ∙ e in cc wrong)) in
        let one = r.new k over in omega (arith, is, one, some)

  pub moved_group : GroupDone l c gates limit left next w class place group rest
  moved_group = record {
    names = r.names;
    later = r.later;
    parts = r.parts;
    many = r.many;
    follows = follows;
    first = r.first;
    now = moved.left;
    kept = record {
      old = λ k differ low_k. moved.other k differ (λ e. let a = r.behind in omega (arith, a, e, low_k)) ∙ r.old k differ low_k;
      new = new_few;
      more = let a = r.last in let b = r.behind in omega (arith, a, b);
    };
    at = r.at;
    more = r.more;
    grown = r.grown;
  }

pub group_done : (l : Library) (c : Cell) (input : Name) → IsGate l c input → (r : Parts) (gates : ℕ) → IsPart c gates r → (limit : ℕ) (left : List (List ℕ)) (v next : Wiring) (w : Wired)
    (class place : ℕ) (places : List ℕ) (group rest : List Terminal) → class < w.count → is_supply_class w class ≡ false → gates ≤ length left → length group ≤ limit → 0 < limit → Follows l left v w
    → AtPlaces (all_terminals w) places group → sinks l w class ≡ group ++ rest → PutsBehind r v next class places place
    → GroupDone l c gates limit left next w class place group rest
group_done l c input g r gates part limit left v next w class place places group rest low net enough small some f at has behind =
    moved_group l c gates limit left behind.middle next w class place behind.driven group rest places
    (row_done l c input g r gates part left v behind.middle w class place behind.driven low net enough f behind.row)
    behind.moved at has low small some
