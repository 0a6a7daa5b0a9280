use Rattle.std.proofs.Common.{drop}
use Rattle.source_checks.specs.Drivers.{driver_of}
use Rattle.source_checks.specs.Places.{in_assignments}
use Rattle.source_checks.proofs.DrivenSoFar.{DrivenSoFar}
use Rattle.source_checks.proofs.drivers.drive_all.Given as goal

abbrev pub invariant-loop-assignment : goal.invariant-loop-assignment
invariant-loop-assignment l = DrivenSoFar l.table l.initial.marks l.marks (in_assignments (driver_of l.table) (drop l.assignment-index l.assignments)) (in_assignments (driver_of l.table) l.assignments)
