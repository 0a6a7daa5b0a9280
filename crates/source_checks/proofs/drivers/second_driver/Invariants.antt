use Rattle.std.proofs.Common.{drop}
use Rattle.source_checks.specs.Drivers.{statement_drivers}
use Rattle.source_checks.specs.Places.{in_statements}
use Rattle.source_checks.proofs.DrivenSoFar.{DrivenSoFar}
use Rattle.source_checks.proofs.drivers.second_driver.Given as goal

abbrev pub invariant-loop-statement : goal.invariant-loop-statement
invariant-loop-statement l = DrivenSoFar l.table l.initial.marks l.marks (in_statements (statement_drivers l.table) (drop l.statement-index l.statements)) (in_statements (statement_drivers l.table) l.statements)
