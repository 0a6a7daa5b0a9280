use Rattle.std.proofs.Common.{◌≡◌, drop}
use Rattle.source_checks.specs.Lines.{first_line}
use Rattle.source_checks.specs.Widths.{signal_faults}
use Rattle.source_checks.proofs.widths.signals_fault.Given as goal

abbrev pub invariant-loop-group : goal.invariant-loop-group
invariant-loop-group l = first_line ((signal_faults) (drop l.group-index l.groups)) ≡ first_line ((signal_faults) l.groups)
