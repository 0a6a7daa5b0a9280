use Rattle.std.proofs.Common.{◌≡◌, ◌++◌}
use Rattle.syf_run.proofs.Printed.{lines_read}
use Rattle.syf_run.proofs.lines.code_lines.Given as goal

abbrev pub invariant-loop-state : goal.invariant-loop-state
invariant-loop-state l = l.out ≡ l.fn.out ++ lines_read l.yielded
