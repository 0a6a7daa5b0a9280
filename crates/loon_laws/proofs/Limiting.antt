-- Rounds on nets, and the bits of classes.
use Rattle.std.proofs.Common.{◌≡◌, inl, inr, ℕ, ◌<◌, Bool, not, List, [], ◌∷◌, ◌++◌, map, length, refl, sym, ◌∙◌, subst, arith, append_assoc, append-nil}
use Rattle.std.proofs.lemmas.Option.{same_Some}
use Rattle.std.specs.List.{flat_map}
use Rattle.vlsi_base.specs.declared.name.Name.{Name}
use Rattle.vlsi_base.specs.declared.name.Terminal.{Terminal}
use Rattle.vlsi_base.specs.Names.{vdd, vss}
use Rattle.vlsi_base.specs.Member.{In, here, there}
use Rattle.bool_expr.specs.Expression.{val}
use Rattle.cell_model.specs.Cell.{Cell, cell_inputs}
use Rattle.cell_model.specs.Library.{Library}
use Rattle.cell_model.proofs.Members.{In-split, In-map, In-map_back, All-In}
use Rattle.net_core.specs.Netlist.{Instance, port}
use Rattle.loon_fanout.specs.Sinks.{Wired, sinks}
use Rattle.loon_fanout.specs.Wired.{with_group}
use Rattle.loon_wiring.specs.Repeaters.{Repeater}
use Rattle.loon_fanout.specs.Limited.{Row, with_round, IsLimited, within, round}
use Rattle.loon_fanout.specs.Laws.{gate_named}
use Rattle.loon_fanout.proofs.Splitting.{sink_at}
use Rattle.loon_fanout.proofs.RightStates.{IsGateCell}
use Rattle.loon_fanout.proofs.RightRounds.{AreNew, Repeats, once, twice, in_groups, some_of}
use Rattle.net_bits.proofs.Lists.{pin_in, input_pin, IsMadeOf}
use Rattle.loon_laws.proofs.Behind.{all_terminals, AreNumbered, Behind, nothing_behind, kept_in, both_behind}
use Rattle.loon_laws.proofs.Moving.{Reads, AreApart, Grown, one_gate, two_gates}

-- what is known before each round
pub record IsReady (l : Library) (w : Wired) : Type 0 where
  pub numbered : AreNumbered w
  pub cells : (i : Instance) → In i w.instances → IsMadeOf l i
  pub on_vdd : In (port vdd) (all_terminals w)
  pub on_vss : In (port vss) (all_terminals w)

-- a sink is a terminal with the class that it is a sink of
sink_reads : (l : Library) (w : Wired) (k : ℕ) (t : Terminal) → IsReady l w → In t (sinks l w k) → Reads w k t
sink_reads l w k t ready t_in =
    let x = sink_at l w k t t_in in
    let m = ready.cells x.owner x.listed in
    let same : m.0 ≡ x.cell = same_Some m.0 x.cell (sym m.1 ∙ x.found) in
    let mine : In x.pin (cell_inputs m.0) = subst (λ (d : Cell). In x.pin (cell_inputs d)) (sym same) x.input in
    let among : In x.pin x.owner.pins = subst (λ (ns : List Name). In x.pin ns) (sym m.3) (input_pin m.0 x.pin mine) in
    record {
      listed = subst (λ (y : Terminal). In y (all_terminals w)) (sym x.is) (pin_in w.ports w.instances x.owner x.pin x.listed among);
      class = x.class;
    }

-- a row of one gate gives what it reads, or one of two inverts it twice
pub data GivesBack (l : Library) (c : Cell) (b : IsGateCell l c) : ℕ → Type 0 where
  by_one : ((v : Bool) → val b.expr (v ∷ []) ≡ v) → GivesBack l c b 1
  by_two : ((v : Bool) → val b.expr (v ∷ []) ≡ not v) → GivesBack l c b 2

-- the cell of such a row
pub record Returns (l : Library) (c : Cell) (gates : ℕ) : Type 0 where
  pub gate : IsGateCell l c
  pub gives : GivesBack l c gate gates

pub returns : (l : Library) (c : Cell) (gates : ℕ) → Repeats l c gates → Returns l c gates
returns l c _ (once b gives) = record { gate = b; gives = by_one gives }
returns l c _ (twice b inverts) = record { gate = b; gives = by_two inverts }

module _ (l : Library) (c : Cell) (b : IsGateCell l c) where
  -- ---- a round

  module _ (w0 : Wired) (k : ℕ) (low : k < w0.count) (on_vdd : In (port vdd) (all_terminals w0)) (on_vss : In (port vss) (all_terminals w0)) where
    -- a row takes its names
    pub row_grown : (gates : ℕ) → GivesBack l c b gates → (w : Wired) (names : List (List ℕ)) → Behind l c b w0 w names → AreApart l c b w0 names
        → (group : List Terminal) → ((t : Terminal) → In t group → Reads w0 k t) → (row left : List (List ℕ)) → length row ≡ gates
        → AreNew c (row ++ left) w.instances → Grown l c b w0 (with_group c w k row group) (names ++ row) left
    row_grown _ (by_one gives) w names h apart group each [] left many new = absurd (omega (arith, many))
    row_grown _ (by_one gives) w names h apart group each (x ∷ y ∷ row) left many new = absurd (omega (arith, many))
    row_grown _ (by_one gives) w names h apart group each (x ∷ []) left many new =
        one_gate l c b w0 w k low on_vdd on_vss group each names h apart gives x left new.1 new.2
    row_grown _ (by_two inverts) w names h apart group each [] left many new = absurd (omega (arith, many))
    row_grown _ (by_two inverts) w names h apart group each (x ∷ []) left many new = absurd (omega (arith, many))
    row_grown _ (by_two inverts) w names h apart group each (x ∷ y ∷ z ∷ row) left many new = absurd (omega (arith, many))
    row_grown _ (by_two inverts) w names h apart group each (x ∷ y ∷ []) left many new =
        subst (λ (ns : List (List ℕ)). Grown l c b w0 (with_group c w k (x ∷ y ∷ []) group) ns left) (append_assoc names (x ∷ []) (y ∷ []))
        (two_gates l c b w0 w k low on_vdd on_vss group each names h apart inverts x y left new.1 new.2.1 new.2.2)

    pub round_grown : (gates : ℕ) → GivesBack l c b gates → (rows : List Row) (w : Wired) (names left : List (List ℕ)) → Behind l c b w0 w names
        → AreApart l c b w0 names
        → ((row : Row) → In row rows → (length row.names ≡ gates) × ((t : Terminal) → In t row.group → Reads w0 k t))
        → AreNew c (flat_map (λ r. r.names) rows ++ left) w.instances
        → Grown l c b w0 (with_round c w k rows) (names ++ flat_map (λ r. r.names) rows) left
    round_grown gates how [] w names left h apart each new =
        subst (λ (ns : List (List ℕ)). Grown l c b w0 w ns left) (sym (append-nil names)) (record { behind = h; apart = apart; rest = new })
    round_grown gates how (row ∷ rows) w names left h apart each new =
        let others = flat_map (λ (r : Row). r.names) rows in
        let first = each row here in
        let g = row_grown gates how w names h apart row.group first.1 row.names (others ++ left) first.0
        (subst (λ (ns : List (List ℕ)). AreNew c ns w.instances) (append_assoc row.names others left) new) in
        subst (λ (ns : List (List ℕ)). Grown l c b w0 (with_round c w k (row ∷ rows)) ns left) (append_assoc names row.names others)
        (round_grown gates how rows (with_group c w k row.names row.group) (names ++ row.names) left g.behind g.apart (λ x x_in. each x (there x_in)) g.rest)

  -- ---- all rounds

  -- gates have cells too
  ready_after : (w u : Wired) (names : List (List ℕ)) → IsReady l w → Behind l c b w u names → IsReady l u
  ready_after w u names ready h = record {
    numbered = h.numbered;
    cells = λ i i_in. elim (In-split i w.instances (map (gate_named c) names) (subst (λ (is : List Instance). In i is) h.instances i_in)) [
      | inl old ↦ ready.cells i old
      | inr new ↦
          let x = In-map_back (gate_named c) i names new in
          let mine : IsMadeOf l (gate_named c x.0) = (c, b.found, b.usable, refl) in
          subst (λ (y : Instance). IsMadeOf l y) x.2 mine
    ];
    on_vdd = kept_in l c b w u names h (port vdd) ready.on_vdd;
    on_vss = kept_in l c b w u names h (port vss) ready.on_vss;
  }

  -- a class with a sink is one of the netlist's
  class_low : (w : Wired) (k limit : ℕ) → IsReady l w → limit < length (sinks l w k) → k < w.count
  class_low w k limit ready many =
      let t = some_of limit (sinks l w k) many in
      let r = sink_reads l w k t.0 ready t.1 in
      subst (λ (x : ℕ). x < w.count) r.class (ready.numbered t.0 r.listed)

pub limited_behind : (l : Library) (limit : ℕ) (r : Repeater) (b : IsGateCell l r.cell) → GivesBack l r.cell b r.gates
    → (names : List (List ℕ)) (w u : Wired) → IsLimited l limit r names w u
    → IsReady l w → AreNew r.cell names w.instances → Behind l r.cell b w u names
limited_behind l limit r b how names w u (within few) ready new = nothing_behind l r.cell b w ready.numbered
limited_behind l limit r b how names w u (round {later = later} class rows large earlier groups many rest) ready new =
    let each : (row : Row) → In row rows → (length row.names ≡ r.gates) × ((t : Terminal) → In t row.group → Reads w class t) = λ row row_in. (
      All-In (λ (x : Row). length x.names ≡ r.gates) rows many row row_in,
      λ t g. sink_reads l w class t ready
          (in_groups limit (sinks l w class) (map (λ (x : Row). x.group) rows) groups row.group (In-map (λ (x : Row). x.group) row rows row_in) t g),
    ) in
    let grown = round_grown l r.cell b w class (class_low l r.cell b w class limit ready large) ready.on_vdd ready.on_vss r.gates how rows w [] later
    (nothing_behind l r.cell b w ready.numbered) (λ name h. elim h [ ]) each new in
    let next = with_round r.cell w class rows in
    let others = flat_map (λ (x : Row). x.names) rows in
    both_behind l r.cell b w next u others later grown.behind
    (limited_behind l limit r b how later next u rest (ready_after l r.cell b w next others ready grown.behind) grown.rest)
