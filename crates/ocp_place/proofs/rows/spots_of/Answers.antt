use Rattle.std.proofs.Common.{◌≡◌, ◌+◌, ◌<◌, ◌≤◌, ◌^◌, ℕ, All, length, map, slice_index, sym, subst}
use Rattle.sym_geom.specs.declared.grid.TheConstants.{FIRST_CELL_X}
use Rattle.row_meaning.specs.Rows.{row_width, x_of}
use Rattle.row_fill.proofs.Filling.{items}
use Rattle.row_fill.proofs.Once.{all_inside}
use Rattle.ocp_place.proofs.Standing.{rows_near, starts_near}
use Rattle.ocp_place.proofs.rows.spots_of.Goals as goal

pub starts_of-requires-clause-cells : goal.starts_of-requires-clause-cells
starts_of-requires-clause-cells c = all_inside c.args.rows.now (length c.args.widths.now) c.requires.once

pub starts_of-requires-clause-narrow : goal.starts_of-requires-clause-narrow
starts_of-requires-clause-narrow c =
    subst (λ (x : ℕ). All (λ row. x + row_width c.args.widths.now row.items ≤ 2 ^ 62) c.args.rows.now) (sym c.from.ensures)
    (rows_near c.args.widths.now c.args.rows.now c.requires.once c.requires.many c.requires.narrow)

pub row_numbers-requires-clause-cells : goal.row_numbers-requires-clause-cells
row_numbers-requires-clause-cells c = all_inside c.args.rows.now (length c.args.widths.now) c.requires.once

pub returns : goal.returns
returns c =
    let starts : (k : ℕ) → k < length c.args.widths.now → slice_index c.in_ok-starts.starts.items k ≡ x_of c.args.widths.now FIRST_CELL_X (map items c.args.rows.now) k 0 =
    subst (λ (left : ℕ). (k : ℕ) → k < length c.args.widths.now → slice_index c.in_ok-starts.starts.items k ≡ x_of c.args.widths.now left (map items c.args.rows.now) k 0)
    c.from.ensures c.in_ok-starts.ensures.starts in
    record {
      many_starts = c.in_ok-starts.ensures.many;
      many_rows = c.in_ok-row_numbers.ensures.many;
      starts = starts;
      row_numbers = c.in_ok-row_numbers.ensures.numbers;
      near = starts_near c.args.widths.now c.args.rows.now c.requires.once c.requires.many c.requires.narrow
          (record { starts = c.in_ok-starts.starts; row_numbers = c.in_ok-row_numbers.row_numbers }) c.in_ok-starts.ensures.many starts;
    }
