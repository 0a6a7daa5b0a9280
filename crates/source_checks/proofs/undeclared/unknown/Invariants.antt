use Rattle.std.proofs.Common.{◌≡◌, drop}
use Rattle.source_checks.specs.Places.{first_unknown, in_statements, statement_uses}
use Rattle.source_checks.proofs.undeclared.unknown.Given as goal

abbrev pub invariant-loop-statement : goal.invariant-loop-statement
invariant-loop-statement l = first_unknown l.table (in_statements statement_uses (drop l.statement-index l.statements)) ≡ first_unknown l.table (in_statements statement_uses l.statements)
