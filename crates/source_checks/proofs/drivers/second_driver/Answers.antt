use Rattle.std.proofs.Common.{sym, ap, subst, ◌∙◌, ◌≡◌, ◌++◌, ◌+◌, ◌∷◌, drop, Option}
use Rattle.std.proofs.lemmas.List.{at_drop_more}
use Rattle.source_checks.specs.declared.statement.Statement.{Statement}
use Rattle.source_checks.specs.declared.drivers.NameFault.{NameFault}
use Rattle.source_checks.specs.Drivers.{statement_drivers}
use Rattle.source_checks.specs.Driving.{Drives}
use Rattle.source_checks.specs.Places.{in_statements}
use Rattle.source_checks.proofs.DrivenSoFar.{goes_on}
use Rattle.source_checks.proofs.drivers.second_driver.Goals as goal

pub loop-statement-preserved : goal.loop-statement-preserved
loop-statement-preserved c =
    let known = c.args.table.now in
    let rest = drop (c.loop-statement.statement-index + 1) c.args.statements.now in
    let next : in_statements (statement_drivers c.args.table.now) (drop c.loop-statement.statement-index c.args.statements.now) ≡ statement_drivers c.args.table.now c.statement-item.result ++ in_statements (statement_drivers c.args.table.now) rest =
    at_drop_more (in_statements (statement_drivers c.args.table.now)) c.args.statements.now c.loop-statement.statement-index c.statement-item.result c.loop-statement-test.true ∙ ap (λ (y : Statement). in_statements (statement_drivers c.args.table.now) (y ∷ rest)) (sym c.statement-item.is) in
    goes_on known c.args.marks.now c.loop-statement.marks c.drive_statement.new.marks (statement_drivers c.args.table.now c.statement-item.result) (in_statements (statement_drivers c.args.table.now) rest) (in_statements (statement_drivers c.args.table.now) (drop c.loop-statement.statement-index c.args.statements.now)) (in_statements (statement_drivers c.args.table.now) c.args.statements.now) c.loop-statement.invariant next
    (subst (λ (o : Option NameFault). Drives known c.loop-statement.marks c.drive_statement.new.marks (statement_drivers c.args.table.now c.statement-item.result) o) c.in_default.is c.in_ok-found.ensures)
