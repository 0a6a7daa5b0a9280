use Rattle.std.proofs.Common.{◌≡◌, drop}
use Rattle.source_checks.specs.Lines.{first_line}
use Rattle.source_checks.specs.Places.{in_assignments}
use Rattle.source_checks.specs.Widths.{assignment_faults}
use Rattle.source_checks.proofs.widths.assignments_fault.Given as goal

abbrev pub invariant-loop-assignment : goal.invariant-loop-assignment
invariant-loop-assignment l = first_line ((in_assignments (assignment_faults l.table)) (drop l.assignment-index l.assignments)) ≡ first_line ((in_assignments (assignment_faults l.table)) l.assignments)
