use Rattle.std.proofs.Common.{◌≡◌, drop}
use Rattle.std.specs.Option.{option_copied}
use Rattle.source_checks.specs.Lines.{first_line}
use Rattle.source_checks.specs.Places.{in_statements}
use Rattle.source_checks.specs.Clock.{statement_clock_lines}
use Rattle.source_clock.proofs.faults.statements_fault.Given as goal

abbrev pub invariant-loop-statement : goal.invariant-loop-statement
invariant-loop-statement l =
    first_line (in_statements (statement_clock_lines l.table (option_copied l.clock)) (drop l.statement-index l.statements)) ≡ first_line (in_statements (statement_clock_lines l.table (option_copied l.clock)) l.statements)
