use Rattle.std.proofs.Common.{Some, None, refl}
use Rattle.std.specs.Option.{option_copied}
use Rattle.source_checks.specs.Lines.{first_line}
use Rattle.source_checks.specs.Places.{in_assignments}
use Rattle.source_checks.specs.Clock.{assignment_clock_lines}
use Rattle.source_checks.proofs.Turns.{turn}
use Rattle.source_checks.proofs.FirstLines.{first_line_append}
use Rattle.source_clock.proofs.reads.clock_line_in_assignments.Goals as goal

pub returns-in-Some : goal.returns-in-Some
returns-in-Some c =
    let look = assignment_clock_lines (option_copied c.args.clock) in
    turn first_line first_line_append look (in_assignments look) (λ _ _. refl) c.args.assignments.now c.loop-assignment.assignment-index c.assignment-item.result _ c.loop-assignment-test.true c.assignment-item.is c.loop-assignment.invariant (Some c.in-Some.line) c.in-Some.ensures

pub loop-assignment-preserved : goal.loop-assignment-preserved
loop-assignment-preserved c =
    let look = assignment_clock_lines (option_copied c.args.clock) in
    turn first_line first_line_append look (in_assignments look) (λ _ _. refl) c.args.assignments.now c.loop-assignment.assignment-index c.assignment-item.result _ c.loop-assignment-test.true c.assignment-item.is c.loop-assignment.invariant None c.in_default.ensures
