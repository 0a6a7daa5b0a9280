use Rattle.std.proofs.Common.{◌≡◌, drop}
use Rattle.source_checks.specs.Lines.{first_line}
use Rattle.source_checks.specs.Places.{in_statements}
use Rattle.source_checks.specs.Widths.{statement_faults}
use Rattle.source_checks.proofs.widths.statements_fault.Given as goal

abbrev pub invariant-loop-statement : goal.invariant-loop-statement
invariant-loop-statement l = first_line ((in_statements (statement_faults l.table)) (drop l.statement-index l.statements)) ≡ first_line ((in_statements (statement_faults l.table)) l.statements)
