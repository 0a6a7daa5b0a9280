-- How wide all cells are together, and placements in so many rows.
use Rattle.std.proofs.Common.{◌≡◌, ℕ, ◌+◌, ◌*◌, ◌/◌, false, List, [], ◌∷◌, length, sum, Option, refl, sym, ◌∙◌, ap, subst, arith}
use Rattle.std.specs.Prelude.{ℤ, pos, ◌+ℤ◌}
use Rattle.std.proofs.lemmas.Int.{ints}
use Rattle.std.proofs.lemmas.List.Sums.{sum_by-cons}
use Rattle.vlsi_base.specs.Member.{In, here, there}
use Rattle.cell_checks.specs.Checked.{IsChecked as HasPassed}
use Rattle.ocp_place.specs.Orderly.{IsOrderly}
use Rattle.ocp_place.proofs.Widths.{wide}
use Rattle.cell_model.specs.Library.{Library}
use Rattle.net_core.specs.Netlist.{Netlist as InMemory}
use Rattle.net_meaning.specs.Netlist.{Member, AbstractNetlist}
use Rattle.net_right.specs.View.{IsSeenAs}
use Rattle.ocp_rows.specs.Placement.{Placement, natural, model_width, row_width}
use Rattle.ocp_place.specs.Nets.{signal_ports}
use Rattle.ocp_place.specs.Stood.{named_rows, instance_columns}
use Rattle.ocp_place.specs.Placed.{InRow, IsFirstPlacement, IsEvenPlacement, rows_of}
use Rattle.row_bridge.specs.Improved.{IsBetter}
use Rattle.ocp_anneal.specs.Improved.{IsImprovedPlacement}
use Rattle.ocp_anneal.specs.Rows.{IsRowCount, columns_of, first_placement, IsGoodPlacement}

-- ---- one row of all cells

module _ (k : AbstractNetlist) (l : Library) (passed : HasPassed false l) (orderly : IsOrderly k l) where
  in_row : (ms : List Member) → ((m : Member) → In m ms → In m k.instances) → row_width l ms ≡ pos (500 * sum (instance_columns l ms))
  in_row [] inside = refl
  in_row (m ∷ ms) inside =
      let w = wide k l passed orderly m (inside m here) in
      let rest = in_row ms (λ n h. inside n (there h)) in
      let own : natural (model_width l m.model) / 500 ≡ w.columns = ap (λ (z : ℤ). natural z / 500) w.is ∙ (let e : 500 * w.columns / 500 ≡ w.columns = omega arith in e) in
      let width = w.is in
      let more : row_width l (m ∷ ms) ≡ model_width l m.model +ℤ row_width l ms = refl in
      let all : sum (instance_columns l (m ∷ ms)) ≡ natural (model_width l m.model) / 500 + sum (instance_columns l ms) = sum_by-cons (λ (x : ℕ). x) (natural (model_width l m.model) / 500) (instance_columns l ms) in
      let e : 500 * sum (instance_columns l (m ∷ ms)) ≡ 500 * w.columns + 500 * sum (instance_columns l ms) = omega (arith, all, own) in
      more ∙ ap (λ (a : ℤ). a +ℤ row_width l ms) width ∙ ap (λ (b : ℤ). pos (500 * w.columns) +ℤ b) rest ∙ ap pos (sym e)

pub all_in_row : (k : AbstractNetlist) (l : Library) → HasPassed false l → IsOrderly k l → (width : ℕ) → pos width ≡ row_width l k.instances → width / 500 ≡ columns_of k l
all_in_row k l passed orderly width is =
    let row = in_row k l passed orderly k.instances (λ m h. h) in
    let both : pos width ≡ pos (500 * columns_of k l) = is ∙ row in
    let same : width ≡ 500 * columns_of k l = omega (arith, ints) in
    ap (λ (w : ℕ). w / 500) same ∙ (let e : 500 * columns_of k l / 500 ≡ columns_of k l = omega arith in e)

-- ---- in rows

-- from the first placement to the one that is made of it
pub good : (l : Library) (n : InMemory) (asked : Option ℕ) (columns count seed moves : ℕ) (first p : InRow) (k : AbstractNetlist) → IsSeenAs n k
    → columns ≡ columns_of k l → IsRowCount asked columns count → IsFirstPlacement l n count first → length first.rows ≡ count → length p.rows ≡ length first.rows
    → IsEvenPlacement l n p → IsImprovedPlacement l n seed moves first p → IsGoodPlacement k l asked seed moves (rows_of k p)
good l n asked columns count seed moves first p k seen wide counted begun many same even better =
    let all : length p.rows ≡ count = same ∙ many in
    let start : rows_of k first ≡ first_placement k l (length p.rows) =
    ap (λ (rows : List (List ℕ)). record { rows = named_rows k.instances rows; ports = signal_ports k; tracks = false }) (begun k seen)
    ∙ ap (λ (c : ℕ). first_placement k l c) (sym all) in
    record {
      no_tracks = refl;
      numbers = p.rows;
      named = refl;
      even = even k seen;
      many = subst (λ (c : ℕ). IsRowCount asked (columns_of k l) c) (sym all) (subst (λ (w : ℕ). IsRowCount asked w count) wide counted);
      better = subst (λ (q : Placement). IsBetter k l seed moves q (rows_of k p)) start (better k seen);
    }
