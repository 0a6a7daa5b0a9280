use Rattle.row_descent.specs.Tables.{rows_of}
use Rattle.row_descent.proofs.Starting.{all_near, all_spans_near}
use Rattle.row_descent.proofs.table.Table.begin.Goals as goal

pub spans_of-requires : goal.spans_of-requires
spans_of-requires c =
    all_near c.args.cells.now (rows_of c.args.rows.now) c.in_ok-starts.starts.items c.deref.result.now c.deref-2.result.now c.requires.block c.in_ok-starts.ensures
    c.deref.ensures.value c.deref-2.ensures.value

pub total_of-total-requires-clause-near : goal.total_of-total-requires-clause-near
total_of-total-requires-clause-near c =
    all_spans_near c.args.cells.now (rows_of c.args.rows.now) c.in_ok-starts.starts.items c.deref.result.now c.deref-2.result.now c.in_ok-spans.spans.items
    c.deref-3.result.now c.requires.block c.in_ok-starts.ensures c.deref.ensures.value c.deref-2.ensures.value c.in_ok-spans.ensures c.deref-3.ensures.value
