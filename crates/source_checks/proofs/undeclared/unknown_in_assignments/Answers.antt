use Rattle.std.proofs.Common.{Some, None, refl}
use Rattle.source_checks.specs.Places.{first_unknown, in_assignments, assignment_uses}
use Rattle.source_checks.specs.Uses.{use_of}
use Rattle.source_checks.proofs.Turns.{turn}
use Rattle.source_checks.proofs.Unknowns.{first_unknown_append}
use Rattle.source_checks.proofs.undeclared.unknown_in_assignments.Goals as goal

pub returns-in-Some : goal.returns-in-Some
returns-in-Some c =
    turn (first_unknown c.args.table.now) (first_unknown_append c.args.table.now) (assignment_uses) (in_assignments assignment_uses) (λ _ _. refl) c.args.assignments.now c.loop-assignment.assignment-index c.assignment-item.result _ c.loop-assignment-test.true c.assignment-item.is c.loop-assignment.invariant (Some (use_of c.in-Some.place)) c.in-Some.ensures

pub loop-assignment-preserved : goal.loop-assignment-preserved
loop-assignment-preserved c =
    turn (first_unknown c.args.table.now) (first_unknown_append c.args.table.now) (assignment_uses) (in_assignments assignment_uses) (λ _ _. refl) c.args.assignments.now c.loop-assignment.assignment-index c.assignment-item.result _ c.loop-assignment-test.true c.assignment-item.is c.loop-assignment.invariant None c.in_default.ensures
