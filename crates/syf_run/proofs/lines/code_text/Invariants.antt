use Rattle.std.proofs.Common.{◌≡◌, ◌++◌}
use Rattle.syf_run.proofs.Printed.{digits_read}
use Rattle.syf_run.proofs.lines.code_text.Given as goal

abbrev pub invariant-loop-bit : goal.invariant-loop-bit
invariant-loop-bit l = l.out ≡ l.fn.out ++ digits_read l.yielded
