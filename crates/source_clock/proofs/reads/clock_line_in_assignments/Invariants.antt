use Rattle.std.proofs.Common.{◌≡◌, drop}
use Rattle.std.specs.Option.{option_copied}
use Rattle.source_checks.specs.Lines.{first_line}
use Rattle.source_checks.specs.Places.{in_assignments}
use Rattle.source_checks.specs.Clock.{assignment_clock_lines}
use Rattle.source_clock.proofs.reads.clock_line_in_assignments.Given as goal

abbrev pub invariant-loop-assignment : goal.invariant-loop-assignment
invariant-loop-assignment l =
    first_line (in_assignments (assignment_clock_lines (option_copied l.clock)) (drop l.assignment-index l.assignments)) ≡ first_line (in_assignments (assignment_clock_lines (option_copied l.clock)) l.assignments)
