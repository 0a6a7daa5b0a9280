-- Rounds on nets, in a netlist that shows nodes.
use Rattle.std.proofs.Common.{◌≡◌, ◌≢◌, inl, inr, ℕ, suc, ◌-◌, ◌<◌, ◌≤◌, Bool, true, false, not, List, [], ◌∷◌, ◌++◌, length, map, refl, sym, ◌∙◌, ap, subst, arith, if◌then◌else◌}
use Rattle.std.specs.List.{flat_map}
use Rattle.vlsi_base.specs.declared.name.Terminal.{Terminal}
use Rattle.vlsi_base.specs.Member.{In, here, there}
use Rattle.bool_expr.specs.Expression.{val}
use Rattle.machine_core.specs.Machine.{Machine}
use Rattle.machine_core.specs.Checked.{IsChecked}
use Rattle.cell_model.specs.Cell.{Cell}
use Rattle.cell_model.specs.Library.{Library}
use Rattle.cell_model.proofs.Members.{In-left, In-right, In-map, All-In}
use Rattle.net_core.specs.Netlist.{Instance}
use Rattle.net_meaning.specs.Well.{buffer_instance}
use Rattle.net_theory.specs.Sources.{node, Seat}
use Rattle.loon_fanout.specs.Sinks.{Wired, sinks}
use Rattle.loon_fanout.specs.Wired.{with_gate, with_moved, with_group}
use Rattle.loon_wiring.specs.Repeaters.{Repeater}
use Rattle.loon_fanout.specs.Limited.{AreGroups, last, next, Row, with_round, IsLimited, within, round}
use Rattle.loon_fanout.specs.Laws.{gate_named}
use Rattle.loon_fanout.proofs.Splitting.{SinkAt, sink_at}
use Rattle.loon_fanout.proofs.RightStates.{State, IsGateCell, fresh, seat_low, node_low}
use Rattle.loon_fanout.proofs.RightGate.{gated, source_old, source_new, value_old, value_new, rank_old, rank_new, class_kept, kind}
use Rattle.loon_fanout.proofs.RightMove.{IsSink, sink_terminal, sink_shows, IsMovable, moved, class_after, moved_state}

-- a class shows a node whose bits are g of those of node a, and that doesn't rank below it
pub record IsShown (l : Library) (m : Machine) (w : Wired) (s : State l m w) (a : ℕ) (g : Bool → Bool) (c : ℕ) : Type 0 where
  pub at : ℕ
  pub below : c < w.count
  pub shows : s.source c ≡ node at
  pub bits : (i t : List Bool) → s.values i t at ≡ g (s.values i t a)
  pub ranks : s.rank a ≤ s.rank at

-- a sink that reads a node with the bits of a
pub record IsPending (l : Library) (m : Machine) (w : Wired) (s : State l m w) (a : ℕ) (t : Terminal) : Type 0 where
  pub sink : IsSink l w t
  pub reads : IsShown l m w s a (λ v. v) (w.class t)

-- what old seats compute from a, ranks above b too
abbrev IsBefore : (l : Library) (m : Machine) (w : Wired) → State l m w → List Instance → ℕ → ℕ → Type 0
IsBefore l m w s is a b =
    (p : Seat) → In p s.shows.seats → (i : Instance) → In i is → i.name ≡ p.member.name → s.rank a < s.rank p.node → s.rank b < s.rank p.node

-- names of gates that are put in behind these instances
abbrev pub AreNew : Cell → List (List ℕ) → List Instance → Type 0
AreNew c [] is = Unit {0}
AreNew c (name ∷ names) is =
    ((j : ℕ) × (name ≡ buffer_instance j)) × ((i : Instance) → In i is → i.name ≢ name) × AreNew c names (is ++ gate_named c name ∷ [])

-- one gate that gives its input, or two that invert it
pub data Repeats (l : Library) (c : Cell) : ℕ → Type 0 where
  once : (b : IsGateCell l c) → ((v : Bool) → val b.expr (v ∷ []) ≡ v) → Repeats l c 1
  twice : (b : IsGateCell l c) → ((v : Bool) → val b.expr (v ∷ []) ≡ not v) → Repeats l c 2

-- ---- a gate

module _ (l : Library) (m : Machine) (checked : IsChecked m) (w : Wired) (s : State l m w) (c : Cell) (b : IsGateCell l c) (name : List ℕ) (j : ℕ) (named : name ≡ buffer_instance j)
    (new_name : (i : Instance) → In i w.instances → i.name ≢ name) (k x : ℕ) (low : k < w.count) (shows_x : s.source k ≡ node x) where
  abbrev pub gate_after : Wired
  gate_after = with_gate c w k name

  abbrev pub gate_state : State l m gate_after
  gate_state = gated l m w s c b name j named new_name k x low shows_x checked

  shown_kept : (a : ℕ) → a < fresh l m w s → (g : Bool → Bool) (d : ℕ) → IsShown l m w s a g d → IsShown l m gate_after gate_state a g d
  shown_kept a low_a g d h =
      let low_at = node_low l m w s d h.at h.below h.shows in
      let below = h.below in
      let ranks = h.ranks in
      let one = rank_old l m w s c b name j named new_name k x low shows_x a low_a in
      let two = rank_old l m w s c b name j named new_name k x low shows_x h.at low_at in
      record {
        at = h.at;
        below = omega (arith, below);
        shows = source_old l m w s c b name j named new_name k x low shows_x d below ∙ h.shows;
        bits = λ i t.
            value_old l m w s c b name j named new_name k x low shows_x i t h.at low_at ∙ h.bits i t
            ∙ ap g (sym (value_old l m w s c b name j named new_name k x low shows_x i t a low_a));
        ranks = omega (arith, ranks, one, two);
      }

  shown_new : (a : ℕ) → a < fresh l m w s → (g : Bool → Bool) → ((i t : List Bool) → s.values i t x ≡ g (s.values i t a)) → s.rank a ≤ s.rank x
      → IsShown l m gate_after gate_state a (λ v. val b.expr (g v ∷ [])) w.count
  shown_new a low_a g bits ranks =
      let one = rank_old l m w s c b name j named new_name k x low shows_x a low_a in
      let two = rank_new l m w s c b name j named new_name k x low shows_x in
      record {
        at = fresh l m w s;
        below = omega arith;
        shows = source_new l m w s c b name j named new_name k x low shows_x;
        bits = λ i t.
            value_new l m w s c b name j named new_name k x low shows_x i t
            ∙ ap (λ (v : Bool). val b.expr (v ∷ [])) (bits i t ∙ ap g (sym (value_old l m w s c b name j named new_name k x low shows_x i t a low_a)));
        ranks = omega (arith, ranks, one, two);
      }

  before_new : (a : ℕ) → a < fresh l m w s → (is : List Instance) → ((i : Instance) → In i is → i.name ≢ name) → IsBefore l m w s is a x
      → IsBefore l m gate_after gate_state is a (fresh l m w s)
  before_new a low_a is apart before p listed i i_in same lower =
      elim (kind l m w s c b name j named new_name k x low shows_x p listed) [
        | inl old ↦
            let low_p = seat_low l m w s p old in
            let one = rank_old l m w s c b name j named new_name k x low shows_x a low_a in
            let two = rank_old l m w s c b name j named new_name k x low shows_x p.node low_p in
            let three = rank_new l m w s c b name j named new_name k x low shows_x in
            let lower_old : s.rank a < s.rank p.node = omega (arith, lower, one, two) in
            let up = before p old i i_in same lower_old in
            omega (arith, up, two, three)
        | inr new ↦ absurd (apart i i_in (same ∙ ap (λ (q : Seat). q.member.name) new))
      ]

  sink_kept : (t : Terminal) → IsSink l w t → IsSink l gate_after t
  sink_kept t h = record {
    owner = h.owner;
    listed = In-left h.owner w.instances (gate_named c name ∷ []) h.listed;
    cell = h.cell;
    found = h.found;
    pin = h.pin;
    input = h.input;
    no_clock = h.no_clock;
    is = h.is;
  }

  pending_kept : (a : ℕ) → a < fresh l m w s → (t : Terminal) → IsPending l m w s a t → IsPending l m gate_after gate_state a t
  pending_kept a low_a t h = record {
    sink = sink_kept t h.sink;
    reads = subst (λ (d : ℕ). IsShown l m gate_after gate_state a (λ v. v) d) (sym (class_kept l m w s c b name j named new_name k x low shows_x t (sink_terminal l m w s t h.sink)))
        (shown_kept a low_a (λ v. v) (w.class t) h.reads);
  }

-- ---- a group

-- sinks that were pending still are, and class k shows node a
pub record IsKept (l : Library) (m : Machine) (w : Wired) (s : State l m w) (k a : ℕ) (u : Wired) : Type 0 where
  pub state : State l m u
  pub low : k < u.count
  pub reads : state.source k ≡ node a
  pub pending : (t : Terminal) → IsPending l m w s a t → IsPending l m u state a t

module _ (l : Library) (m : Machine) (w : Wired) (s : State l m w) (is : List Instance) (a to : ℕ) (to_is : w.count - 1 ≡ to) (shown : IsShown l m w s a (λ v. v) to)
    (before : IsBefore l m w s is a shown.at) (group : List Terminal) (each : (t : Terminal) → In t group → IsPending l m w s a t)
    (owners : (t : Terminal) (g : In t group) → In (each t g).sink.owner is) where
  movable : (t : Terminal) → In t group → IsMovable l m w s shown.at t
  movable t g =
      let h = each t g in
      record {
        sink = h.sink;
        from = h.reads.at;
        shows = h.reads.shows;
        bits = λ i r. h.reads.bits i r ∙ sym (shown.bits i r);
        later = λ p listed same lower.
            let up = h.reads.ranks in before p listed h.sink.owner (owners t g) same (omega (arith, lower, up));
      }

  abbrev moved_after : State l m (with_moved group w)
  moved_after = moved_state l m w s group to shown.at to_is shown.below shown.shows movable

  shown_again : (c : ℕ) → IsShown l m w s a (λ v. v) c → IsShown l m (with_moved group w) moved_after a (λ v. v) c
  shown_again c h = record { at = h.at; below = h.below; shows = h.shows; bits = h.bits; ranks = h.ranks }

  pending_moved : (t : Terminal) → IsPending l m w s a t → IsPending l m (with_moved group w) moved_after a t
  pending_moved t h =
      let e = class_after l m w s group to shown.at to_is shown.below shown.shows movable t in
      let x = h.sink in
      record {
        sink = record { owner = x.owner; listed = x.listed; cell = x.cell; found = x.found; pin = x.pin; input = x.input; no_clock = x.no_clock; is = x.is };
        reads = subst (λ (d : ℕ). IsShown l m (with_moved group w) moved_after a (λ v. v) d) (sym e) (by (moved l m w s group to shown.at to_is shown.below shown.shows movable t));
      } where
        by : (y : Bool) → IsShown l m (with_moved group w) moved_after a (λ v. v) (if y then to else w.class t)
        by true = shown_again to shown
        by false = shown_again (w.class t) h.reads

  group_moved : (k : ℕ) → k < w.count → s.source k ≡ node a → IsKept l m w s k a (with_moved group w)
  group_moved k low reads = record { state = moved_after; low = low; reads = reads; pending = pending_moved }

twice_not : (v : Bool) → not (not v) ≡ v
twice_not true = refl
twice_not false = refl

module _ (l : Library) (m : Machine) (checked : IsChecked m) (w : Wired) (s : State l m w) (c : Cell) (b : IsGateCell l c) (k a : ℕ) (low : k < w.count) (reads : s.source k ≡ node a)
    (group : List Terminal) (each : (t : Terminal) → In t group → IsPending l m w s a t) where
  low_a : a < fresh l m w s
  low_a = node_low l m w s k a low reads

  one_less : (x : ℕ) → suc x - 1 ≡ x
  one_less x = omega arith

  one_gate : ((v : Bool) → val b.expr (v ∷ []) ≡ v) → (name : List ℕ) (j : ℕ) → name ≡ buffer_instance j → ((i : Instance) → In i w.instances → i.name ≢ name)
      → IsKept l m w s k a (with_group c w k (name ∷ []) group)
  unfolding shown_new pending_kept sink_kept
  one_gate gives name j named new_name =
      let t = gate_state l m checked w s c b name j named new_name k a low reads in
      let new = shown_new l m checked w s c b name j named new_name k a low reads a low_a (λ v. v) (λ i r. refl) (omega arith) in
      let shown : IsShown l m (with_gate c w k name) t a (λ v. v) w.count =
      record { at = new.at; below = new.below; shows = new.shows; bits = λ i r. new.bits i r ∙ gives (t.values i r a); ranks = new.ranks } in
      let before = before_new l m checked w s c b name j named new_name k a low reads a low_a w.instances new_name (λ p listed i i_in same lower. lower) in
      let later = λ (z : Terminal) (h : IsPending l m w s a z). pending_kept l m checked w s c b name j named new_name k a low reads a low_a z h in
      let end = group_moved l m (with_gate c w k name) t w.instances a w.count (one_less w.count) shown before group
      (λ z g. later z (each z g)) (λ z g. (each z g).sink.listed) k (omega (arith, low))
      (source_old l m w s c b name j named new_name k a low reads k low ∙ reads) in
      record { state = end.state; low = end.low; reads = end.reads; pending = λ z h. end.pending z (later z h) }

  two_gates : ((v : Bool) → val b.expr (v ∷ []) ≡ not v) → (first second : List ℕ) (i j : ℕ) → first ≡ buffer_instance i → second ≡ buffer_instance j
      → (new_first : (x : Instance) → In x w.instances → x.name ≢ first) → (new_second : (x : Instance) → In x (w.instances ++ gate_named c first ∷ []) → x.name ≢ second)
      → IsKept l m w s k a (with_group c w k (first ∷ second ∷ []) group)
  unfolding shown_new pending_kept sink_kept
  two_gates inverts first second i j named_first named_second new_first new_second =
      let u = with_gate c w k first in
      let t = gate_state l m checked w s c b first i named_first new_first k a low reads in
      let inverted = shown_new l m checked w s c b first i named_first new_first k a low reads a low_a (λ v. v) (λ y r. refl) (omega arith) in
      let before = before_new l m checked w s c b first i named_first new_first k a low reads a low_a w.instances new_first (λ p listed y y_in same lower. lower) in
      let kept = λ (z : Terminal) (h : IsPending l m w s a z). pending_kept l m checked w s c b first i named_first new_first k a low reads a low_a z h in
      let reads_t : t.source k ≡ node a = source_old l m w s c b first i named_first new_first k a low reads k low ∙ reads in
      let low_t : k < u.count = omega (arith, low) in
      let low_at : a < fresh l m u t = node_low l m u t k a low_t reads_t in
      let v = gate_state l m checked u t c b second j named_second new_second w.count inverted.at inverted.below inverted.shows in
      let new = shown_new l m checked u t c b second j named_second new_second w.count inverted.at inverted.below inverted.shows a low_at (λ x. val b.expr (x ∷ [])) inverted.bits inverted.ranks in
      let shown : IsShown l m (with_gate c u w.count second) v a (λ x. x) u.count =
      record { at = new.at; below = new.below; shows = new.shows; bits = λ y r. new.bits y r ∙ both (v.values y r a); ranks = new.ranks } in
      let before_v = before_new l m checked u t c b second j named_second new_second w.count inverted.at inverted.below inverted.shows a low_at w.instances
      (λ x x_in. new_second x (In-left x w.instances (gate_named c first ∷ []) x_in)) before in
      let later = λ (z : Terminal) (h : IsPending l m w s a z). pending_kept l m checked u t c b second j named_second new_second w.count inverted.at inverted.below inverted.shows a low_at z (kept z h) in
      let end = group_moved l m (with_gate c u w.count second) v w.instances a u.count (one_less u.count) shown before_v group
      (λ z g. later z (each z g)) (λ z g. (each z g).sink.listed) k (omega (arith, low))
      (source_old l m u t c b second j named_second new_second w.count inverted.at inverted.below inverted.shows k low_t ∙ reads_t) in
      record { state = end.state; low = end.low; reads = end.reads; pending = λ z h. end.pending z (later z h) } where
        both : (x : Bool) → val b.expr (val b.expr (x ∷ []) ∷ []) ≡ x
        both x = ap (λ (y : Bool). val b.expr (y ∷ [])) (inverts x) ∙ inverts (not x) ∙ twice_not x

-- ---- a row, which takes its names

pub record IsRowKept (l : Library) (m : Machine) (w : Wired) (s : State l m w) (c : Cell) (k a : ℕ) (rest : List (List ℕ)) (u : Wired) : Type 0 where
  pub kept : IsKept l m w s k a u
  pub names : AreNew c rest u.instances

row_kept : (l : Library) (m : Machine) (checked : IsChecked m) (w : Wired) (s : State l m w) (c : Cell) (gates : ℕ) → Repeats l c gates → (k a : ℕ) → k < w.count → s.source k ≡ node a
    → (group : List Terminal) → ((t : Terminal) → In t group → IsPending l m w s a t)
    → (names others later : List (List ℕ)) → length names ≡ gates → AreNew c ((names ++ others) ++ later) w.instances
    → IsRowKept l m w s c k a (others ++ later) (with_group c w k names group)
row_kept l m checked w s c gates (once b gives) k a low reads group each [] others later many new = absurd (omega (arith, many))
row_kept l m checked w s c gates (once b gives) k a low reads group each (x ∷ y ∷ names) others later many new = absurd (omega (arith, many))
row_kept l m checked w s c gates (once b gives) k a low reads group each (x ∷ []) others later many new = record {
  kept = one_gate l m checked w s c b k a low reads group each gives x new.0.0 new.0.1 new.1;
  names = new.2;
}
row_kept l m checked w s c gates (twice b inverts) k a low reads group each [] others later many new = absurd (omega (arith, many))
row_kept l m checked w s c gates (twice b inverts) k a low reads group each (x ∷ []) others later many new = absurd (omega (arith, many))
row_kept l m checked w s c gates (twice b inverts) k a low reads group each (x ∷ y ∷ z ∷ names) others later many new = absurd (omega (arith, many))
row_kept l m checked w s c gates (twice b inverts) k a low reads group each (x ∷ y ∷ []) others later many new = record {
  kept = two_gates l m checked w s c b k a low reads group each inverts x y new.0.0 new.2.0.0 new.0.1 new.2.0.1 new.1 new.2.1;
  names = new.2.2;
}

-- ---- a round

-- a state of a netlist, and names that are new to it
pub record IsReady (l : Library) (m : Machine) (c : Cell) (names : List (List ℕ)) (w : Wired) : Type 0 where
  pub state : State l m w
  pub new : AreNew c names w.instances

round_ready : (l : Library) (m : Machine) → IsChecked m → (c : Cell) (gates : ℕ) → Repeats l c gates → (rows : List Row) (w : Wired) (s : State l m w) (k a : ℕ) → k < w.count → s.source k ≡ node a
    → ((row : Row) → In row rows → (length row.names ≡ gates) × ((t : Terminal) → In t row.group → IsPending l m w s a t))
    → (later : List (List ℕ)) → AreNew c (flat_map (λ r. r.names) rows ++ later) w.instances → IsReady l m c later (with_round c w k rows)
round_ready l m checked c gates b [] w s k a low reads each later new = record { state = s; new = new }
round_ready l m checked c gates b (row ∷ rows) w s k a low reads each later new =
    let first = each row here in
    let r = row_kept l m checked w s c gates b k a low reads row.group first.1 row.names (flat_map (λ (x : Row). x.names) rows) later first.0 new in
    round_ready l m checked c gates b rows (with_group c w k row.names row.group) r.kept.state k a r.kept.low r.kept.reads
    (λ x x_in. ((each x (there x_in)).0, λ t g. r.kept.pending t ((each x (there x_in)).1 t g))) later r.names

pub in_groups : {A : Type 0} (size : ℕ) (xs : List A) (groups : List (List A)) → AreGroups size xs groups → (g : List A) → In g groups → (x : A) → In x g → In x xs
in_groups size xs groups (last more few) g here x h = h
in_groups size xs groups (last more few) g (there absent) x h = elim absent [ ]
in_groups size xs groups (next {xs = ys} {ys = zs} full rest) g here x h = In-left x ys zs h
in_groups size xs groups (next {xs = ys} {ys = zs} {groups = more} full rest) g (there g_in) x h = In-right x ys zs (in_groups size zs more rest g g_in x h)

pub some_of : {A : Type 0} (n : ℕ) (xs : List A) → n < length xs → (x : A) × In x xs
some_of n [] h = absurd (omega (arith, h))
some_of n (x ∷ xs) h = (x, here)

pub sink_of : (l : Library) (w : Wired) (k : ℕ) (t : Terminal) → SinkAt l w k t → IsSink l w t
sink_of l w k t x = record { owner = x.owner; listed = x.listed; cell = x.cell; found = x.found; pin = x.pin; input = x.input; no_clock = x.no_clock; is = x.is }

-- a class with sinks shows a node
pub record IsRead (l : Library) (m : Machine) (w : Wired) (s : State l m w) (k : ℕ) : Type 0 where
  pub at : ℕ
  pub low : k < w.count
  pub shows : s.source k ≡ node at

class_read : (l : Library) (m : Machine) (w : Wired) (s : State l m w) (k n : ℕ) → n < length (sinks l w k) → IsRead l m w s k
class_read l m w s k n many =
    let t = some_of n (sinks l w k) many in
    let x = sink_at l w k t.0 t.1 in
    let sink = sink_of l w k t.0 x in
    let shows = sink_shows l m w s t.0 sink in
    record {
      at = shows.0;
      low = subst (λ (c : ℕ). c < w.count) x.class (s.shows.numbered t.0 (sink_terminal l m w s t.0 sink));
      shows = ap s.source (sym x.class) ∙ shows.1;
    }

pending_at : (l : Library) (m : Machine) (w : Wired) (s : State l m w) (k : ℕ) (r : IsRead l m w s k) (t : Terminal) → In t (sinks l w k) → IsPending l m w s r.at t
pending_at l m w s k r t h =
    let x = sink_at l w k t h in
    record {
      sink = sink_of l w k t x;
      reads = subst (λ (c : ℕ). IsShown l m w s r.at (λ v. v) c) (sym x.class) (record { at = r.at; below = r.low; shows = r.shows; bits = λ i y. refl; ranks = omega arith });
    }

-- ---- all rounds

pub limited_state : (l : Library) (m : Machine) → IsChecked m → (limit : ℕ) (b : Repeater) → Repeats l b.cell b.gates → (names : List (List ℕ)) (w u : Wired) → IsLimited l limit b names w u
    → State l m w → AreNew b.cell names w.instances → State l m u
limited_state l m checked limit b repeats names w u (within few) s new = s
limited_state l m checked limit b repeats names w u (round {later = later} class rows large earlier groups many rest) s new =
    let r = class_read l m w s class limit large in
    let each : (row : Row) → In row rows → (length row.names ≡ b.gates) × ((t : Terminal) → In t row.group → IsPending l m w s r.at t) = λ row row_in. (
      All-In (λ (x : Row). length x.names ≡ b.gates) rows many row row_in,
      λ t g. pending_at l m w s class r t
          (in_groups limit (sinks l w class) (map (λ (x : Row). x.group) rows) groups row.group (In-map (λ (x : Row). x.group) row rows row_in) t g),
    ) in
    let ready = round_ready l m checked b.cell b.gates repeats rows w s class r.at r.low r.shows each later new in
    limited_state l m checked limit b repeats later (with_round b.cell w class rows) u rest ready.state ready.new
