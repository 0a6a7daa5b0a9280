use Rattle.pat_io.proofs.Pieces.{values-next, values-past}
use Rattle.pat_io.proofs.writer.values.Goals as goal
use Rattle.pat_io.proofs.writer.values.Goals.{then-k-items+in_ok-spaced_value, else-k-items}

pub loop-k-preserved : goal.loop-k-preserved
loop-k-preserved c =
    elim c.if-k-items.branch [
      | then-k-items+in_ok-spaced_value w ↦
          rw (w.out-is, w.in_ok-spaced_value.ensures)
          (values-next c.args.out.now c.args.columns.now c.args.items.now c.loop-k.k c.loop-k.out c.index-columns-k.result w.index-items-k.result
          c.loop-k-test.true c.index-columns-k.is w.if-k-items.true w.index-items-k.is c.loop-k.invariant)
      | else-k-items w ↦
          rw w.out-is (values-past c.args.out.now c.args.columns.now c.args.items.now c.loop-k.k c.loop-k.out w.if-k-items.false c.loop-k.invariant)
    ]
