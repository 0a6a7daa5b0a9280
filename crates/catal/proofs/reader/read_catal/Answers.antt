use Rattle.std.proofs.Common.{◌≡◌, ap, length, arith}
use Rattle.std.proofs.lemmas.Result.{err_from_is_err_and}
use Rattle.catal.proofs.Listing.{refused_line, refused_cells}
use Rattle.catal.proofs.reader.read_catal.Goals as goal

pub returns-in_err-names-clause-refused : goal.returns-in_err-names-clause-refused
returns-in_err-names-clause-refused c =
    let p = err_from_is_err_and c.from_residual.result c.from_residual.ensures.1 in
    rw (p.1, p.2) (refused_line c.args.bytes.now c.in_err-names.field-0.0 (omega (arith, c.if-bytes-gt-MOST_SOURCE_BYTES.false)) c.in_err-names.ensures.refused)

pub returns-then-count-gt-MOST_CELLS-clause-refused : goal.returns-then-count-gt-MOST_CELLS-clause-refused
returns-then-count-gt-MOST_CELLS-clause-refused c =
    let n : length c.as_slice-count.result.now ≡ length c.in_ok-names.names = ap length c.as_slice-count.ensures in
    refused_cells c.args.bytes.now c.in_ok-names.names c.limit-then-count-gt-MOST_CELLS.result (omega (arith, c.if-bytes-gt-MOST_SOURCE_BYTES.false)) c.in_ok-names.ensures.read
    (omega (arith, n, c.if-count-gt-MOST_CELLS.true)) (rw (← n) c.limit-then-count-gt-MOST_CELLS.ensures)
