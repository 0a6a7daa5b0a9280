use Rattle.std.proofs.Common.{Some, None, refl}
use Rattle.source_checks.specs.Lines.{first_line}
use Rattle.source_checks.specs.Places.{in_statements}
use Rattle.source_checks.specs.Widths.{statement_faults}
use Rattle.source_checks.proofs.Turns.{turn}
use Rattle.source_checks.proofs.FirstLines.{first_line_append}
use Rattle.source_checks.proofs.ShortParts.{statement_short}
use Rattle.source_checks.proofs.widths.statements_fault.Goals as goal

pub returns-in-Some : goal.returns-in-Some
returns-in-Some c =
    turn first_line first_line_append (statement_faults c.args.table.now) (in_statements (statement_faults c.args.table.now)) (λ _ _. refl) c.args.statements.now c.loop-statement.statement-index c.statement-item.result _ c.loop-statement-test.true c.statement-item.is c.loop-statement.invariant (Some c.in-Some.line) c.in-Some.ensures

pub loop-statement-preserved : goal.loop-statement-preserved
loop-statement-preserved c =
    turn first_line first_line_append (statement_faults c.args.table.now) (in_statements (statement_faults c.args.table.now)) (λ _ _. refl) c.args.statements.now c.loop-statement.statement-index c.statement-item.result _ c.loop-statement-test.true c.statement-item.is c.loop-statement.invariant None c.in_default.ensures

pub statement_fault-requires : goal.statement_fault-requires
statement_fault-requires c = record { short = statement_short c.args.statements.now c.loop-statement.statement-index c.statement-item.result c.loop-statement-test.true c.statement-item.is c.requires.short }
