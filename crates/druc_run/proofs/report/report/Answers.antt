use Rattle.druc_run.proofs.Lines.{lines_more}
use Rattle.druc_run.proofs.report.report.Goals as goal

pub loop-breach-preserved : goal.loop-breach-preserved
loop-breach-preserved c =
    lines_more c.args.breaches.now c.loop-breach.breach-index _ c.loop-breach.text c.line.new.out c.loop-breach-test.true c.loop-breach.invariant c.in_ok-line.ensures
