use Rattle.std.proofs.Common.{◌≡◌, drop}
use Rattle.source_checks.specs.Places.{in_statements}
use Rattle.source_checks.specs.Clock.{statement_clocks, first_text}
use Rattle.source_clock.proofs.clocks.clock.Given as goal

abbrev pub invariant-loop-statement : goal.invariant-loop-statement
invariant-loop-statement l =
    first_text (in_statements (statement_clocks l.table) (drop l.statement-index l.statements)) ≡ first_text (in_statements (statement_clocks l.table) l.statements)
