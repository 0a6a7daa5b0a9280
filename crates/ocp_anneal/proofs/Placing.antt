-- A placement in rows by number.
use Rattle.std.proofs.Common.{◌≡◌, inl, inr, false, ℕ, ◌+◌, ◌*◌, ◌/◌, ◌≤◌, ◌<◌, ◌^◌, List, [], ◌∷◌, ◌++◌, length, sym, ap, subst, ◌∙◌, arith}
use Rattle.std.specs.List.{All}
use Rattle.std.proofs.lemmas.Int.{ints, int_max_is}
use Rattle.std.proofs.lemmas.List.{length-map}
use Rattle.vlsi_base.specs.Member.{In}
use Rattle.sym_geom.specs.declared.grid.TheConstants.{FIRST_CELL_X, PITCH}
use Rattle.std.specs.Prelude.{pos}
use Rattle.cell_model.specs.Library.{Library}
use Rattle.cell_model.proofs.Members.{All-from}
use Rattle.cell_checks.specs.Checked.{IsChecked as HasPassed}
use Rattle.net_core.specs.Netlist.{Netlist as InMemory}
use Rattle.net_meaning.specs.Netlist.{AbstractNetlist, port, a_port}
use Rattle.net_right.specs.View.{IsSeenAs, member_of}
use Rattle.net_right.proofs.Terminals.{seen_instances, seen_classes}
use Rattle.row_meaning.specs.Length.{Block}
use Rattle.row_descent.specs.Law.{ImprovedAlike}
use Rattle.row_descent.specs.Steps.{IsImproved}
use Rattle.ocp_rows.specs.Placement.{rows_width}
use Rattle.ocp_place.specs.Nets.{signal_ports}
use Rattle.ocp_place.specs.Orderly.{IsOrderly}
use Rattle.ocp_place.specs.Placed.{InRow, rows_of, AreRowsOf, IsRowPlacementOf}
use Rattle.ocp_place.specs.Stood.{named_rows, instance_widths, member}
use Rattle.ocp_place.proofs.Bounds.{class_low}
use Rattle.ocp_place.proofs.Classes.{known, known_seen}
use Rattle.ocp_place.proofs.RowSited.{columns_are}
use Rattle.ocp_place.proofs.Seen.{orderly}
use Rattle.row_bridge.specs.Numbered.{numbered}
use Rattle.row_bridge.specs.Law.{NetsAreAlike, HoldEachOnce, ImprovedAbove, CanBeImproved, PlacedCanBeImproved, AlikeCanBeImproved, ImprovedHoldEachOnce}
use Rattle.ocp_anneal.specs.declared.cells.Tied.{Tied}
use Rattle.row_bridge.specs.Improved.{IsBetter}
use Rattle.ocp_anneal.specs.Cells.{all_pins, signal_nets, last_width, placed_block}
use Rattle.ocp_anneal.proofs.Numbers.{member_in}
use Rattle.ocp_anneal.proofs.Alike.{is_pin, same_pins}

-- ---- bounds

-- a block has a column at least
pub some_columns : (n : AbstractNetlist) (l : Library) (p : InRow) → AreRowsOf n l p → 1 ≤ p.width / PITCH
some_columns n l p are =
    let w = are.width in
    let m = int_max_is (rows_width l (named_rows n.instances p.rows)) (pos (PITCH * (length (signal_ports n) + 1))) in
    let wide : 500 ≤ p.width = omega (arith, ints) in
    (let e : 1 ≤ p.width / 500 = omega arith in e)

-- each pin's class is one of the netlist's
pub all_low : (n : AbstractNetlist) (l : Library) (passed : HasPassed false l) (o : IsOrderly n l) (p : InRow) (are : AreRowsOf n l p) (t : Tied) → In t (all_pins n l p) → t.class < n.classes
all_low n l passed o p are t h = elim (is_pin n l o p are t h) [
  | inl s ↦ subst (λ (c : ℕ). c < n.classes) s.class_is (o.counted.numbered (port s.name) (a_port s.listed))
  | inr s ↦
      subst (λ (c : ℕ). c < n.classes) s.class_is
      (class_low n l passed o (member n.instances s.number) s.cell s.pin (member_in n.instances s.number s.inside) s.found s.is_pin)
]

module _ (l : Library) (n : InMemory) (p : InRow) (placed : IsRowPlacementOf l n p) where
  pub pins_low : (pins : List Tied) → ((k : AbstractNetlist) → IsSeenAs n k → pins ≡ all_pins k l p) → All (λ t. t.class < n.count) pins
  pins_low pins are =
      let k = known n in
      let seen = known_seen n placed.drawable.sound in
      let o = orderly l n placed.passed placed.drawable k seen in
      All-from (λ (t : Tied). t.class < n.count) pins
      (λ t h.
      let low = all_low k l placed.passed o p (placed.rows k seen) t (subst (λ (ts : List Tied). In t ts) (are k seen) h) in
      let many = seen_classes n k seen in
      omega (arith, low, many))

  -- ---- what is improved

  module _ (k : AbstractNetlist) (seen : IsSeenAs n k) where
    o : IsOrderly k l
    o = orderly l n placed.passed placed.drawable k seen

    abbrev theirs : Block
    theirs = numbered k l (rows_of k p)

    -- with the nets that were made
    abbrev made : List ℕ → Block
    made ws = record { left = FIRST_CELL_X; widths = ws; nets = signal_nets k (all_pins k l p) }

    widths_are : theirs.widths ≡ instance_widths l k.instances ++ last_width p ∷ []
    widths_are =
        ap (λ (c : ℕ). instance_widths l k.instances ++ (FIRST_CELL_X + PITCH * (c + 1)) ∷ []) (columns_are k l o p (placed.rows k seen))

    pub can_be : NetsAreAlike → PlacedCanBeImproved → AlikeCanBeImproved → p.width ≤ 70000000000000 → n.count < 2 ^ 32 → CanBeImproved (placed_block k l p) p.rows
    can_be nets can alike narrow few =
        let many = seen_classes n k seen in
        subst (λ (ws : List ℕ). CanBeImproved (made ws) p.rows) widths_are
        (alike FIRST_CELL_X theirs.widths (signal_nets k (all_pins k l p)) theirs.nets p.rows (same_pins k l o p (placed.rows k seen) nets)
        (can l n p k placed seen narrow (omega (arith, many, few))))

    pub is_better : NetsAreAlike → ImprovedAlike → ImprovedAbove → (seed moves : ℕ) (new : List (List ℕ)) → IsImproved (placed_block k l p) seed moves p.rows new
        → IsBetter k l seed moves (rows_of k p) (record { rows = named_rows k.instances new; ports = signal_ports k; tracks = false })
    is_better nets alike better seed moves new improved =
        let again : IsImproved theirs seed moves p.rows new =
        alike FIRST_CELL_X theirs.widths (signal_nets k (all_pins k l p)) theirs.nets seed moves p.rows new (same_pins k l o p (placed.rows k seen) nets)
        (subst (λ (ws : List ℕ). IsImproved (made ws) seed moves p.rows new) (sym widths_are) improved) in
        let b = better k l (signal_ports k) seed moves p.rows new o (placed.rows k seen).each_once again in
        record { stable = b.stable; lower = b.lower }

  -- each instance stands once
  pub each_once : HoldEachOnce (length n.instances) p.rows
  each_once =
      let k = known n in
      let seen = known_seen n placed.drawable.sound in
      subst (λ (m : ℕ). HoldEachOnce m p.rows) (ap length (seen_instances n k seen) ∙ length-map n.instances member_of) (placed.rows k seen).each_once

  -- in memory
  module _ (b : Block) (is : (k : AbstractNetlist) → IsSeenAs n k → b ≡ placed_block k l p) (old : List (List ℕ)) (kept : old ≡ p.rows) where
    pub ready : NetsAreAlike → PlacedCanBeImproved → AlikeCanBeImproved → p.width ≤ 70000000000000 → n.count < 2 ^ 32 → CanBeImproved b old
    ready nets can alike narrow few =
        let k = known n in
        let seen = known_seen n placed.drawable.sound in
        subst (λ (c : Block). CanBeImproved c old) (sym (is k seen))
        (subst (λ (rows : List (List ℕ)). CanBeImproved (placed_block k l p) rows) (sym kept) (can_be k seen nets can alike narrow few))

    pub once_again : ImprovedHoldEachOnce → (seed moves : ℕ) (new : List (List ℕ)) → IsImproved b seed moves old new → HoldEachOnce (length n.instances) new
    once_again hold seed moves new improved =
        hold b (length n.instances) seed moves old new (subst (λ (rows : List (List ℕ)). HoldEachOnce (length n.instances) rows) (sym kept) each_once) improved

    -- as many rows as before
    pub as_many : (seed moves : ℕ) (new : List (List ℕ)) → IsImproved b seed moves old new → (1 ≤ length new) × (length new ≤ 256)
    as_many seed moves new improved =
        let are = placed.rows (known n) (known_seen n placed.drawable.sound) in
        let many = improved.same.many in
        let same = ap length kept in
        let some = are.some in
        let few = are.few in
        (omega arith, omega arith)

    pub better_now : NetsAreAlike → ImprovedAlike → ImprovedAbove → (seed moves : ℕ) (new : List (List ℕ)) → IsImproved b seed moves old new → (k : AbstractNetlist) → IsSeenAs n k
        → IsBetter k l seed moves (rows_of k p) (record { rows = named_rows k.instances new; ports = signal_ports k; tracks = false })
    better_now nets alike above seed moves new improved k seen =
        is_better k seen nets alike above seed moves new
        (subst (λ (c : Block). IsImproved c seed moves p.rows new) (is k seen) (subst (λ (rows : List (List ℕ)). IsImproved b seed moves rows new) kept improved))
