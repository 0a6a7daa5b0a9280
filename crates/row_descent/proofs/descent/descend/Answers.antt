use Rattle.std.proofs.Common.{arith}
use Rattle.row_meaning.proofs.Exchanging.{same_then}
use Rattle.row_descent.specs.Tables.{rows_of}
use Rattle.row_descent.proofs.descent.descend.Goals as goal

pub loop-preserved : goal.loop-preserved
loop-preserved c =
    let l = c.sweep.ensures.step.lower c.loop-test.true in
    record {
      ready = c.sweep.ensures.ready;
      lower = omega arith;
      same = same_then (rows_of c.args.rows.now) (rows_of c.loop.rows) (rows_of c.sweep.new.rows) c.loop.invariant.same c.sweep.ensures.step.same;
    }
