-- Gates put in, and sinks put behind them: ports stay in their classes, and pins of supplies are with the ports of their names.
use Rattle.std.proofs.Common.{◌≡◌, ◌≢◌, ◌⊎◌, inl, inr, ℕ, ◌-◌, Bool, true, false, List, [], ◌∷◌, ◌++◌, map, None, Some, refl, sym, ◌∙◌, ap, subst, append_assoc, if◌then◌else◌}
use Rattle.std.specs.List.{flat_map, list_any}
use Rattle.vlsi_base.specs.declared.name.Name.{Name}
use Rattle.vlsi_base.specs.declared.name.Terminal.{Terminal}
use Rattle.vlsi_base.specs.Names.{vdd, vss}
use Rattle.vlsi_base.specs.Member.{In, here, there}
use Rattle.cell_model.specs.Cell.{Cell}
use Rattle.cell_model.specs.Library.{Library}
use Rattle.cell_model.proofs.Members.{In-split, In-left, In-map}
use Rattle.cell_model.proofs.Texts.{text_differs}
use Rattle.net_core.specs.Netlist.{Instance, port, pin_of}
use Rattle.loon_fanout.specs.Sinks.{Wired, sinks, is_same_terminal}
use Rattle.loon_fanout.specs.Wired.{pin_class, with_gate, with_row, with_moved, with_group}
use Rattle.loon_wiring.specs.Repeaters.{Repeater}
use Rattle.loon_fanout.specs.Limited.{Row, with_round, IsLimited, within, round}
use Rattle.loon_fanout.specs.Laws.{gate_named}
use Rattle.loon_fanout.proofs.Picking.{is_false, any_in, only_one}
use Rattle.loon_fanout.proofs.Terminals.{terminal_same}
use Rattle.loon_fanout.proofs.Supplies.{is_net, supply_apart}
use Rattle.loon_fanout.proofs.Splitting.{sink_at}
use Rattle.loon_fanout.proofs.RightPins.{own_class}
use Rattle.loon_fanout.proofs.RightRounds.{AreNew, in_groups}

-- each instance's pins of supplies are in the classes of the ports of their names
abbrev pub AreTied : Wired → Type 0
AreTied w = (i : Instance) (supply : Name) → In i w.instances → (supply ≡ vdd) ⊎ (supply ≡ vss) → w.class (pin_of i.name supply) ≡ w.class (port supply)

-- ports are in the classes where they were, and pins of supplies are tied
pub record Keeps (w u : Wired) : Type 0 where
  pub ports : (name : Name) → u.class (port name) ≡ w.class (port name)
  pub tied : AreTied u

-- and the instances are those that were there and others of new names
record Grows (w u : Wired) : Type 0 where
  keeps : Keeps w u
  kept : (i : Instance) → In i w.instances → In i u.instances
  each : (i : Instance) → In i u.instances → In i w.instances ⊎ ((j : Instance) → In j w.instances → j.name ≢ i.name)

itself : (w : Wired) → AreTied w → Grows w w
itself w tied = record { keeps = record { ports = λ name. refl; tied = tied }; kept = λ i h. h; each = λ i h. inl h }

-- ---- a gate

supply_class : (c : Cell) (w : Wired) (k : ℕ) (supply : Name) → (supply ≡ vdd) ⊎ (supply ≡ vss) → pin_class w c k supply ≡ w.class (port supply)
supply_class c w k supply (inl e) = subst (λ (s : Name). pin_class w c k s ≡ w.class (port s)) (sym e) (high w) where
  high : (x : Wired) → pin_class x c k vdd ≡ x.class (port vdd)
  high x = refl
supply_class c w k supply (inr e) = subst (λ (s : Name). pin_class w c k s ≡ w.class (port s)) (sym e) (low w) where
  low : (x : Wired) → pin_class x c k vss ≡ x.class (port vss)
  low x = refl

module _ (c : Cell) (w v : Wired) (g : Grows w v) (k : ℕ) (name : List ℕ) (new : (i : Instance) → In i v.instances → i.name ≢ name) where
  abbrev after : Wired
  after = with_gate c v k name

  gate_tied : AreTied after
  gate_tied i supply at which = elim (In-split i v.instances (gate_named c name ∷ []) at) [
    | inl old ↦
        ap (λ (x : Bool). if x then pin_class v c k supply else v.class (pin_of i.name supply)) (text_differs i.name name (new i old))
        ∙ g.keeps.tied i supply old which
    | inr last ↦
        subst (λ (y : Instance). after.class (pin_of y.name supply) ≡ v.class (port supply)) (sym (only_one i (gate_named c name) last))
        (own_class c v name k supply ∙ supply_class c v k supply which)
  ]

  gate_each : (i : Instance) → In i after.instances → In i w.instances ⊎ ((j : Instance) → In j w.instances → j.name ≢ i.name)
  gate_each i at = elim (In-split i v.instances (gate_named c name ∷ []) at) [
    | inl old ↦ g.each i old
    | inr last ↦
        inr (λ j j_in. subst (λ (y : Instance). j.name ≢ y.name) (sym (only_one i (gate_named c name) last)) (new j (g.kept j j_in)))
  ]

  gate_grows : Grows w after
  gate_grows = record {
    keeps = record { ports = g.keeps.ports; tied = gate_tied };
    kept = λ i h. In-left i v.instances (gate_named c name ∷ []) (g.kept i h);
    each = gate_each;
  }

-- gates in a row take their names
record Rest (c : Cell) (left : List (List ℕ)) (w u : Wired) : Type 0 where
  grows : Grows w u
  new : AreNew c left u.instances

row_grows : (c : Cell) (w v : Wired) → Grows w v → (k : ℕ) (names left : List (List ℕ)) → AreNew c (names ++ left) v.instances → Rest c left w (with_row c v k names)
row_grows c w v g k [] left new = record { grows = g; new = new }
row_grows c w v g k (name ∷ names) left new =
    row_grows c w (with_gate c v k name) (gate_grows c w v g k name new.1) v.count names left new.2

-- ---- sinks are put behind them

module _ (l : Library) (w v : Wired) (g : Grows w v) (tied : AreTied w) (k : ℕ) (group : List Terminal) (each : (t : Terminal) → In t group → In t (sinks l w k)) where
  -- a terminal that moves was a sink
  sunk : (t : Terminal) → list_any (is_same_terminal t) group ≡ true → In t (sinks l w k)
  sunk t e = let u = any_in (is_same_terminal t) group e in each t (subst (λ (x : Terminal). In x group) (sym (terminal_same t u.0 u.2)) u.1)

  port_stays : (name : Name) → list_any (is_same_terminal (port name)) group ≡ false
  port_stays name = is_false (list_any (is_same_terminal (port name)) group) (λ e.
      let s = sink_at l w k (port name) (sunk (port name) e) in
      let wrong : None ≡ Some s.owner.name = ap (λ (t : Terminal). t.instance) s.is in absurd (cc wrong))

  pin_stays : (i : Instance) (supply : Name) → In i v.instances → (supply ≡ vdd) ⊎ (supply ≡ vss) → list_any (is_same_terminal (pin_of i.name supply)) group ≡ false
  pin_stays i supply at which = is_false (list_any (is_same_terminal (pin_of i.name supply)) group) (λ e.
      let t_in = sunk (pin_of i.name supply) e in
      let s = sink_at l w k (pin_of i.name supply) t_in in
      elim (g.each i at) [
        | inl old ↦ supply_apart w k (is_net l w k (pin_of i.name supply) t_in) supply which (sym (tied i supply old which) ∙ s.class)
        | inr apart ↦
            let both : Some i.name ≡ Some s.owner.name = ap (λ (t : Terminal). t.instance) s.is in
            let same : s.owner.name ≡ i.name = cc both in
            apart s.owner s.listed same
      ])

  moved_grows : Grows w (with_moved group v)
  moved_grows = record {
    keeps = record {
      ports = λ name. ap (λ (x : Bool). if x then v.count - 1 else v.class (port name)) (port_stays name) ∙ g.keeps.ports name;
      tied = λ i supply at which.
          ap (λ (x : Bool). if x then v.count - 1 else v.class (pin_of i.name supply)) (pin_stays i supply at which)
          ∙ g.keeps.tied i supply at which
          ∙ sym (ap (λ (x : Bool). if x then v.count - 1 else v.class (port supply)) (port_stays supply));
    };
    kept = g.kept;
    each = g.each;
  }

-- ---- rounds

round_grows : (l : Library) (c : Cell) (w : Wired) → AreTied w → (k : ℕ) (rows : List Row) (v : Wired) → Grows w v → (left : List (List ℕ))
    → ((row : Row) → In row rows → (t : Terminal) → In t row.group → In t (sinks l w k))
    → AreNew c (flat_map (λ r. r.names) rows ++ left) v.instances → Rest c left w (with_round c v k rows)
round_grows l c w tied k [] v g left each new = record { grows = g; new = new }
round_grows l c w tied k (row ∷ rows) v g left each new =
    let others = flat_map (λ (r : Row). r.names) rows in
    let r = row_grows c w v g k row.names (others ++ left) (subst (λ (ns : List (List ℕ)). AreNew c ns v.instances) (append_assoc row.names others left) new) in
    round_grows l c w tied k rows (with_group c v k row.names row.group)
    (moved_grows l w (with_row c v k row.names) r.grows tied k row.group (each row here)) left (λ x x_in. each x (there x_in)) r.new

pub limited_keeps : (l : Library) (limit : ℕ) (b : Repeater) (names : List (List ℕ)) (w u : Wired) → IsLimited l limit b names w u
    → AreTied w → AreNew b.cell names w.instances → Keeps w u
limited_keeps l limit b names w u (within few) tied new = record { ports = λ name. refl; tied = tied }
limited_keeps l limit b names w u (round {later = later} class rows large earlier groups many rest) tied new =
    let next = with_round b.cell w class rows in
    let r = round_grows l b.cell w tied class rows w (itself w tied) later
    (λ row row_in. in_groups limit (sinks l w class) (map (λ (x : Row). x.group) rows) groups row.group (In-map (λ (x : Row). x.group) row rows row_in)) new in
    let end = limited_keeps l limit b later next u rest r.grows.keeps.tied r.new in
    record { ports = λ name. end.ports name ∙ r.grows.keeps.ports name; tied = end.tied }
