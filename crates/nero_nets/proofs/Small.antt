-- The grid over an even placement has few nodes.
use Rattle.std.proofs.Common.{◌≡◌, ℕ, zero, suc, ◌+◌, ◌-◌, ◌*◌, ◌/◌, ◌<◌, ◌≤◌, max, ◌⊎◌, inl, inr, Bool, true, false, cond, List, [], ◌∷◌, length, map, filter, slice_index, sum, sym, ap, subst, ◌∙◌, arith}
use Rattle.std.specs.Prelude.{ℤ, pos}
use Rattle.std.specs.Int.{int_max}
use Rattle.std.specs.List.{All}
use Rattle.std.proofs.Math.Nat.{div-mul-le_self}
use Rattle.std.proofs.lemmas.Int.{ints, int_max_is}
use Rattle.std.proofs.lemmas.List.{length-map}
use Rattle.std.proofs.lemmas.List.Sums.{sum_by-cons}
use Rattle.std.proofs.lemmas.Nat.{mul-le}
use Rattle.vlsi_base.specs.declared.name.Name.{Name}
use Rattle.vlsi_base.specs.declared.name.Port.{Port}
use Rattle.sym_geom.specs.declared.grid.TheConstants.{PITCH}
use Rattle.cell_model.specs.Library.{Library}
use Rattle.net_core.specs.Netlist.{Netlist as InMemory}
use Rattle.net_meaning.specs.Netlist.{Member, AbstractNetlist}
use Rattle.net_right.specs.View.{member_of, IsSeenAs}
use Rattle.net_right.proofs.Terminals.{seen_ports, seen_instances}
use Rattle.ocp_rows.specs.Placement.{natural, model_width, rows_width, block_columns}
use Rattle.ocp_place.specs.Nets.{is_signal, signal_ports}
use Rattle.ocp_place.specs.Placed.{InRow, AreRowsOf, IsRowPlacementOf, IsEvenPlacement, rows_of}
use Rattle.ocp_place.specs.Stood.{member, named_rows, instance_widths, instance_columns}
use Rattle.ocp_place.proofs.Seen.{orderly}
use Rattle.ocp_place.proofs.Turned.{widest_is}
use Rattle.ocp_place.proofs.Widths.{width_at, columns_at, columns_all, columns_sum}
use Rattle.row_meaning.specs.Rows.{row_at, row_width as wide_by, rows_width as widest_by}
use Rattle.row_meaning.specs.First.{share_of, widest}
use Rattle.grid_core.specs.Numbers.{plane, nodes}
use Rattle.ocp_grid.specs.Points.{grid_of}
use Rattle.nero_nets.specs.Law.{GridsAreSmall}

-- ---- rows by their columns

widest_fits : (w : List ℕ) (rows : List (List ℕ)) (most : ℕ) → ((r : ℕ) → wide_by w (row_at rows r) ≤ most) → widest_by w rows ≤ most
widest_fits w [] most each = omega arith
widest_fits w (row ∷ rows) most each = let a = each 0 in let b = widest_fits w rows most (λ r. each (suc r)) in omega arith

widest_under : (w : List ℕ) (most : ℕ) → All (λ x. (0 < x) × (x ≤ most)) w → widest w ≤ most
widest_under [] most each = omega arith
widest_under (x ∷ w) most each =
    let a = (each 0 x (omega arith)).1 in
    let b = widest_under w most (λ k d low. each (suc k) d (omega (arith, low))) in
    omega (arith, a, b)

filter_less : (t : Name → Bool) (xs : List Name) → length (filter t xs) ≤ length xs
filter_less t [] = omega arith
filter_less t (x ∷ xs) = by (t x) (filter_less t xs) where
  by : (b : Bool) → length (filter t xs) ≤ length xs → length (cond b (x ∷ filter t xs) (filter t xs)) ≤ suc (length xs)
  by true h = omega (arith, h)
  by false h = omega (arith, h)

row_columns : (w cs : List ℕ) → ((c : ℕ) → slice_index w c ≡ 500 * slice_index cs c) → (row : List ℕ) → wide_by w row ≡ 500 * wide_by cs row
row_columns w cs each [] = omega arith
row_columns w cs each (d ∷ row) =
    let a = sum_by-cons (slice_index w) d row in
    let b = sum_by-cons (slice_index cs) d row in
    let c = each d in
    let e = row_columns w cs each row in
    omega (arith, a, b, c, e)

-- ---- arithmetic

share_fits : (total many : ℕ) → 1 ≤ many → (total + (many - 1)) / many * many ≤ total + many
share_fits total many some = let a = div-mul-le_self (total + (many - 1)) many in omega (arith, a)

share_low : (total many : ℕ) → 1 ≤ many → (total + (many - 1)) / many ≤ total + many
share_low total many some =
    let a = share_fits total many some in
    let b = mul-le ((total + (many - 1)) / many) 1 ((total + (many - 1)) / many) many (omega arith) some in
    omega (arith, a, b)

-- columns by share, and by ports
by_share : (share many columns total : ℕ) → share * many ≤ total + many → share ≤ total + many → columns ≤ share + 33 → many ≤ 256 → total ≤ 2097152 → columns * (10 * many + 2) ≤ 40000000
by_share share many columns total fits low wide few small =
    let a = mul-le columns (10 * many + 2) (share + 33) (10 * many + 2) wide (omega arith) in
    let b : (share + 33) * (10 * many + 2) ≡ 10 * (share * many) + 2 * share + 330 * many + 66 = omega arith in
    omega (arith, a, b, fits, low, few, small)

by_ports : (ports many columns : ℕ) → columns ≤ ports + 2 → ports ≤ 8192 → many ≤ 256 → columns * (10 * many + 2) ≤ 40000000
by_ports ports many columns wide low few =
    let a = mul-le columns (10 * many + 2) 8194 2562 (omega (arith, wide, low)) (omega (arith, few)) in
    omega (arith, a)

-- on at most five metals above the first
all_metals : (plane metals : ℕ) → plane ≤ 40000000 → metals ≤ 6 → plane * (metals - 1) < 4294967295
all_metals plane metals low few = let a = mul-le plane (metals - 1) 40000000 5 low (omega (arith, few)) in omega (arith, a)

-- a block is as wide as its rows, and as its ports ask
width_is : (widest ports : ℕ) → int_max (pos widest) (pos (PITCH * (ports + 1))) ≡ pos (max widest (PITCH * (ports + 1)))
width_is widest ports = let m = int_max_is (pos widest) (pos (PITCH * (ports + 1))) in omega (arith, ints)

columns_fit : (wide most ports : ℕ) → wide ≤ 500 * most → max wide (500 * (ports + 1)) / 500 ≤ max most (ports + 1)
columns_fit wide most ports low = omega (arith, low)

module _ (l : Library) (n : InMemory) (p : InRow) (metals : ℕ) (placed : IsRowPlacementOf l n p) (even : IsEvenPlacement l n p) (few_instances : length n.instances ≤ 65536)
    (few_ports : length n.ports ≤ 8192) (few_metals : metals ≤ 6) (k : AbstractNetlist) (seen : IsSeenAs n k) where
  are : AreRowsOf k l p
  are = placed.rows k seen

  abbrev columns : List ℕ
  columns = instance_columns l k.instances

  abbrev widths : List ℕ
  widths = instance_widths l k.instances

  abbrev share : ℕ
  share = share_of columns (length p.rows)

  abbrev ports : ℕ
  ports = length (signal_ports k)

  widest_row : pos (widest_by widths p.rows) ≡ rows_width l (named_rows k.instances p.rows)
  widest_row = widest_is l k.instances widths p.rows are.each_once (λ c low. width_at k l placed.passed (orderly l n placed.passed placed.drawable k seen) c low)

  narrow : widest_by widths p.rows ≤ 500 * (share + 32)
  narrow =
      let o = orderly l n placed.passed placed.drawable k seen in
      let cells = widest_under columns 32 (columns_all k l placed.passed o) in
      widest_fits widths p.rows (500 * (share + 32)) (λ r.
      let a = row_columns widths columns (columns_at k l placed.passed o) (row_at p.rows r) in
      let b = (even k seen).each r in
      omega (arith, a, b, cells))

  block_is : block_columns l (rows_of k p) ≡ max (widest_by widths p.rows) (500 * (ports + 1)) / 500
  block_is =
      ap (λ (z : ℤ). natural (int_max z (pos (PITCH * (ports + 1)))) / 500) (sym widest_row)
      ∙ ap (λ (z : ℤ). natural z / 500) (width_is (widest_by widths p.rows) ports)

  ports_low : ports ≤ 8192
  ports_low =
      let a = filter_less is_signal k.ports in
      let b = ap length (seen_ports n k seen) in
      let c = length-map n.ports (λ (x : Port). x.name) in
      omega (arith, a, b, c, few_ports)

  total_low : sum columns ≤ 2097152
  total_low =
      let o = orderly l n placed.passed placed.drawable k seen in
      let a = columns_sum k l placed.passed o in
      let b = length-map k.instances (λ (m : Member). natural (model_width l m.model) / PITCH) in
      let c = ap length (seen_instances n k seen) in
      let d = length-map n.instances member_of in
      omega (arith, a, b, c, d, few_instances)

  plane_low : (block_columns l (rows_of k p) + 1) * (10 * length p.rows + 2) ≤ 40000000
  plane_low =
      let some = are.some in
      let few = are.few in
      let e = block_is in
      let fit = columns_fit (widest_by widths p.rows) (share + 32) ports narrow in
      let either : (block_columns l (rows_of k p) ≤ share + 32) ⊎ (block_columns l (rows_of k p) ≤ ports + 1) = most (share + 32) (ports + 1) (block_columns l (rows_of k p)) (omega (arith, e, fit)) in
      elim either [
        | inl wide ↦ by_share share (length p.rows) (block_columns l (rows_of k p) + 1) (sum columns) (share_fits (sum columns) (length p.rows) some)
            (share_low (sum columns) (length p.rows) some) (omega (arith, wide)) few total_low
        | inr wide ↦ by_ports ports (length p.rows) (block_columns l (rows_of k p) + 1) (omega (arith, wide)) ports_low few
      ]
    where
      most : (a b c : ℕ) → c ≤ max a b → (c ≤ a) ⊎ (c ≤ b)
      most zero b c h = inr (omega (arith, h))
      most (suc a) zero c h = inl (omega (arith, h))
      most (suc a) (suc b) zero h = inl (omega arith)
      most (suc a) (suc b) (suc c) h = elim (most a b c (omega (arith, h))) [ inl low ↦ inl (omega (arith, low)) | inr low ↦ inr (omega (arith, low)) ]

  pub few_nodes : nodes (grid_of metals k l p) < 4294967295
  few_nodes =
      let rows : length (named_rows k.instances p.rows) ≡ length p.rows = length-map p.rows (map (member k.instances)) in
      let height : 10 * length (named_rows k.instances p.rows) + 1 + 1 ≡ 10 * length p.rows + 2 = omega (arith, rows) in
      all_metals (plane (grid_of metals k l p)) metals
      (subst (λ (h : ℕ). (block_columns l (rows_of k p) + 1) * h ≤ 40000000) (sym height) plane_low) few_metals

pub grids_are_small : GridsAreSmall
grids_are_small l n p metals placed even few_instances few_ports few_metals k seen = few_nodes l n p metals placed even few_instances few_ports few_metals k seen
