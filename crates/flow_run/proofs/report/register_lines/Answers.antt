use Rattle.flow_run.proofs.Lines.{lines_next}
use Rattle.flow_run.proofs.report.register_lines.Goals as goal

pub loop-k-preserved : goal.loop-k-preserved
loop-k-preserved c =
    rw (c.in_ok-register_line.ensures)
    (lines_next c.args.out.now c.args.registers.now c.loop-k.k c.loop-k.out c.index-registers-k.result c.loop-k-test.true c.index-registers-k.is c.loop-k.invariant)
