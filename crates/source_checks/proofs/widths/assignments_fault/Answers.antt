use Rattle.std.proofs.Common.{Some, None, refl}
use Rattle.source_checks.specs.Lines.{first_line}
use Rattle.source_checks.specs.Places.{in_assignments}
use Rattle.source_checks.specs.Widths.{assignment_faults}
use Rattle.source_checks.proofs.Turns.{turn}
use Rattle.source_checks.proofs.FirstLines.{first_line_append}
use Rattle.source_checks.proofs.ShortParts.{assignment_short}
use Rattle.source_checks.proofs.widths.assignments_fault.Goals as goal

pub returns-in-Some : goal.returns-in-Some
returns-in-Some c =
    turn first_line first_line_append (assignment_faults c.args.table.now) (in_assignments (assignment_faults c.args.table.now)) (λ _ _. refl) c.args.assignments.now c.loop-assignment.assignment-index c.assignment-item.result _ c.loop-assignment-test.true c.assignment-item.is c.loop-assignment.invariant (Some c.in-Some.line) c.in-Some.ensures

pub loop-assignment-preserved : goal.loop-assignment-preserved
loop-assignment-preserved c =
    turn first_line first_line_append (assignment_faults c.args.table.now) (in_assignments (assignment_faults c.args.table.now)) (λ _ _. refl) c.args.assignments.now c.loop-assignment.assignment-index c.assignment-item.result _ c.loop-assignment-test.true c.assignment-item.is c.loop-assignment.invariant None c.in_default.ensures

pub assignment_fault-requires : goal.assignment_fault-requires
assignment_fault-requires c = record { short = assignment_short c.args.assignments.now c.loop-assignment.assignment-index c.assignment-item.result c.loop-assignment-test.true c.assignment-item.is c.requires.short }
