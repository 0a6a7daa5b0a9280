use Rattle.std.proofs.Common.{◌-◌, true, arith}
use Rattle.row_meaning.specs.Length.{block_of}
use Rattle.row_descent.specs.Tables.{rows_of}
use Rattle.row_descent.proofs.Stepping.{step_of, step_more, length_kept}
use Rattle.row_descent.proofs.descent.sink.Goals as goal

pub loop-left-init : goal.loop-left-init
loop-left-init c = record {
  ready = c.lowers.ensures.ready;
  step =
      step_of (block_of c.args.cells.now) (rows_of c.args.rows.now) (rows_of c.lowers.new.rows) c.args.row c.args.place true c.if-not-lowers.ensures.value
      c.if-not-lowers.ensures.rows;
}

pub lowers-requires-in-loop-left-clause-place : goal.lowers-requires-in-loop-left-clause-place
lowers-requires-in-loop-left-clause-place c =
    let a = length_kept (rows_of c.args.rows.now) (rows_of c.loop-left.rows) c.args.row c.loop-left.invariant.step.same in
    omega arith

pub loop-left-preserved : goal.loop-left-preserved
loop-left-preserved c = record {
  ready = c.lowers-in-loop-left.ensures.ready;
  step =
      step_more (block_of c.args.cells.now) (rows_of c.args.rows.now) (rows_of c.loop-left.rows) (rows_of c.lowers-in-loop-left.new.rows) true c.loop-left.invariant.step
      (step_of (block_of c.args.cells.now) (rows_of c.loop-left.rows) (rows_of c.lowers-in-loop-left.new.rows) c.args.row (c.loop-left.left - 1) true
      c.if-not-lowers-2.ensures.value c.if-not-lowers-2.ensures.rows);
}
