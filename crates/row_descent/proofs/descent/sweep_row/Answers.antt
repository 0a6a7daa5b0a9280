use Rattle.std.proofs.Common.{◌≡◌, ◌≤◌, Bool, true, cond, sym, ap, ◌∙◌, arith}
use Rattle.row_meaning.specs.Rows.{exchanged}
use Rattle.row_meaning.specs.Length.{block_of, hp}
use Rattle.row_descent.specs.Tables.{rows_of}
use Rattle.row_descent.proofs.Stepping.{step_then, stays_more, length_kept}
use Rattle.row_descent.proofs.descent.sweep_row.Goals as goal
use Rattle.row_descent.proofs.descent.sweep_row.Goals.{then-sink, else-sink}

pub sink-requires-clause-place : goal.sink-requires-clause-place
sink-requires-clause-place c =
    let a = length_kept (rows_of c.args.rows.now) (rows_of c.loop-place.rows) c.args.row c.loop-place.invariant.step.same in
    omega arith

pub loop-place-preserved : goal.loop-place-preserved
loop-place-preserved c =
    let b = block_of c.args.cells.now in
    let old = rows_of c.args.rows.now in
    let mid = rows_of c.loop-place.rows in
    let e : c.if-sink.changed ≡ cond c.sink.result true c.loop-place.changed =
    elim c.if-sink.branch [
      | then-sink w ↦ w.changed-is ∙ sym (ap (λ (t : Bool). cond t true c.loop-place.changed) w.if-sink.true)
      | else-sink w ↦ w.changed-is ∙ sym (ap (λ (t : Bool). cond t true c.loop-place.changed) w.if-sink.false)
    ] in
    record {
      ready = c.sink.ensures.ready;
      step = step_then b old mid (rows_of c.sink.new.rows) c.loop-place.changed c.sink.result c.if-sink.changed e c.loop-place.invariant.step c.sink.ensures.step;
      stays =
          stays_more (λ rows k. hp b rows ≤ hp b (exchanged rows c.args.row k)) b old mid c.loop-place.place c.loop-place.changed c.sink.result c.if-sink.changed e
          c.loop-place.invariant.step c.loop-place.invariant.stays c.sink.ensures.stays;
    }
