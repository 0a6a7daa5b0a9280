use Rattle.std.proofs.Common.{sym, ap, subst, ◌∙◌, ◌≡◌, ◌++◌, ◌+◌, ◌∷◌, drop, Option}
use Rattle.std.proofs.lemmas.List.{at_drop_more}
use Rattle.source_checks.specs.declared.statement.Assignment.{Assignment}
use Rattle.source_checks.specs.declared.drivers.NameFault.{NameFault}
use Rattle.source_checks.specs.Drivers.{driver_of}
use Rattle.source_checks.specs.Driving.{Drives}
use Rattle.source_checks.specs.Places.{in_assignments}
use Rattle.source_checks.proofs.DrivenSoFar.{goes_on}
use Rattle.source_checks.proofs.drivers.drive_all.Goals as goal

pub loop-assignment-preserved : goal.loop-assignment-preserved
loop-assignment-preserved c =
    let known = c.args.table.now in
    let rest = drop (c.loop-assignment.assignment-index + 1) c.args.assignments.now in
    let next : in_assignments (driver_of c.args.table.now) (drop c.loop-assignment.assignment-index c.args.assignments.now) ≡ driver_of c.args.table.now c.assignment-item.result ++ in_assignments (driver_of c.args.table.now) rest =
    at_drop_more (in_assignments (driver_of c.args.table.now)) c.args.assignments.now c.loop-assignment.assignment-index c.assignment-item.result c.loop-assignment-test.true ∙ ap (λ (y : Assignment). in_assignments (driver_of c.args.table.now) (y ∷ rest)) (sym c.assignment-item.is) in
    goes_on known c.args.marks.now c.loop-assignment.marks c.drive.new.marks (driver_of c.args.table.now c.assignment-item.result) (in_assignments (driver_of c.args.table.now) rest) (in_assignments (driver_of c.args.table.now) (drop c.loop-assignment.assignment-index c.args.assignments.now)) (in_assignments (driver_of c.args.table.now) c.args.assignments.now) c.loop-assignment.invariant next
    (subst (λ (o : Option NameFault). Drives known c.loop-assignment.marks c.drive.new.marks (driver_of c.args.table.now c.assignment-item.result) o) c.in_default.is c.in_ok-found.ensures)
