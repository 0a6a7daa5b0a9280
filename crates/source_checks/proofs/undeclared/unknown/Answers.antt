use Rattle.std.proofs.Common.{Some, None, refl}
use Rattle.source_checks.specs.Places.{first_unknown, in_statements, statement_uses}
use Rattle.source_checks.specs.Uses.{use_of}
use Rattle.source_checks.proofs.Turns.{turn}
use Rattle.source_checks.proofs.Unknowns.{first_unknown_append}
use Rattle.source_checks.proofs.undeclared.unknown.Goals as goal

pub returns-in-Some : goal.returns-in-Some
returns-in-Some c =
    turn (first_unknown c.args.table.now) (first_unknown_append c.args.table.now) (statement_uses) (in_statements statement_uses) (λ _ _. refl) c.args.statements.now c.loop-statement.statement-index c.statement-item.result _ c.loop-statement-test.true c.statement-item.is c.loop-statement.invariant (Some (use_of c.in-Some.place)) c.in-Some.ensures

pub loop-statement-preserved : goal.loop-statement-preserved
loop-statement-preserved c =
    turn (first_unknown c.args.table.now) (first_unknown_append c.args.table.now) (statement_uses) (in_statements statement_uses) (λ _ _. refl) c.args.statements.now c.loop-statement.statement-index c.statement-item.result _ c.loop-statement-test.true c.statement-item.is c.loop-statement.invariant None c.in_default.ensures
