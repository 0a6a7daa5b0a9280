use Rattle.flow_run.proofs.Lines.{Lines}
use Rattle.flow_run.proofs.report.register_lines.Given as goal

abbrev pub invariant-loop-k : goal.invariant-loop-k
invariant-loop-k l = Lines l.fn.out l.registers l.k l.out
