use Rattle.std.proofs.Common.{◌≡◌, drop}
use Rattle.source_checks.specs.Lines.{first_line}
use Rattle.source_checks.specs.Widths.{port_faults}
use Rattle.source_checks.proofs.widths.ports_fault.Given as goal

abbrev pub invariant-loop-group : goal.invariant-loop-group
invariant-loop-group l = first_line ((port_faults) (drop l.group-index l.groups)) ≡ first_line ((port_faults) l.groups)
