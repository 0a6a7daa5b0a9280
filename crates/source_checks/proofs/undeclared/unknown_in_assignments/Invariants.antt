use Rattle.std.proofs.Common.{◌≡◌, drop}
use Rattle.source_checks.specs.Places.{first_unknown, in_assignments, assignment_uses}
use Rattle.source_checks.proofs.undeclared.unknown_in_assignments.Given as goal

abbrev pub invariant-loop-assignment : goal.invariant-loop-assignment
invariant-loop-assignment l = first_unknown l.table (in_assignments assignment_uses (drop l.assignment-index l.assignments)) ≡ first_unknown l.table (in_assignments assignment_uses l.assignments)
