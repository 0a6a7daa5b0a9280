use Rattle.std.proofs.Common.{◌≡◌, ℕ, Bool, true, cond, sym, ap, ◌∙◌, arith}
use Rattle.std.specs.Global.{Vec}
use Rattle.std.proofs.lemmas.List.{length-map}
use Rattle.row_meaning.specs.Length.{block_of}
use Rattle.row_descent.specs.Tables.{rows_of}
use Rattle.row_descent.proofs.Stepping.{RowStays, step_then, stays_more, stable_at}
use Rattle.row_descent.proofs.descent.sweep.Goals as goal
use Rattle.row_descent.proofs.descent.sweep.Goals.{then-sweep_row, else-sweep_row}

pub loop-row-preserved : goal.loop-row-preserved
loop-row-preserved c =
    let b = block_of c.args.cells.now in
    let old = rows_of c.args.rows.now in
    let mid = rows_of c.loop-row.rows in
    let e : c.if-sweep_row.changed ≡ cond c.sweep_row.result true c.loop-row.changed =
    elim c.if-sweep_row.branch [
      | then-sweep_row w ↦ w.changed-is ∙ sym (ap (λ (t : Bool). cond t true c.loop-row.changed) w.if-sweep_row.true)
      | else-sweep_row w ↦ w.changed-is ∙ sym (ap (λ (t : Bool). cond t true c.loop-row.changed) w.if-sweep_row.false)
    ] in
    record {
      ready = c.sweep_row.ensures.ready;
      step =
          step_then b old mid (rows_of c.sweep_row.new.rows) c.loop-row.changed c.sweep_row.result c.if-sweep_row.changed e c.loop-row.invariant.step
          c.sweep_row.ensures.step;
      stays =
          stays_more (RowStays b) b old mid c.loop-row.row c.loop-row.changed c.sweep_row.result c.if-sweep_row.changed e c.loop-row.invariant.step
          c.loop-row.invariant.stays c.sweep_row.ensures.stays;
    }

pub returns-clause-stable : goal.returns-clause-stable
returns-clause-stable c =
    let many = length-map c.args.rows.now (λ (v : Vec ℕ). v.items) in
    stable_at (block_of c.args.cells.now) (rows_of c.args.rows.now) (rows_of c.loop-row.rows) c.loop-row.row c.loop-row.changed c.loop-row.invariant.step
    (omega arith) c.loop-row.invariant.stays
