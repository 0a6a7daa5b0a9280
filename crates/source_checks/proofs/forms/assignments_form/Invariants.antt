use Rattle.std.proofs.Common.{◌≡◌, drop}
use Rattle.source_checks.specs.Lines.{first_line}
use Rattle.source_checks.specs.Places.{in_assignments}
use Rattle.source_checks.specs.Unsupported.{assignment_forms}
use Rattle.source_checks.proofs.forms.assignments_form.Given as goal

abbrev pub invariant-loop-assignment : goal.invariant-loop-assignment
invariant-loop-assignment l = first_line ((in_assignments (assignment_forms l.table l.in_block)) (drop l.assignment-index l.assignments)) ≡ first_line ((in_assignments (assignment_forms l.table l.in_block)) l.assignments)
