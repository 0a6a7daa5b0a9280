use Rattle.std.proofs.Common.{◌≡◌, ◌++◌, map, drop, Some}
use Rattle.source_checks.specs.Symbols.{all_names}
use Rattle.source_checks.specs.Places.{in_statements}
use Rattle.source_checks.specs.Elaboration.{statement_storage}
use Rattle.source_bits.specs.Driven.{stored_view, numbered_storage}
use Rattle.source_bits.proofs.driven.stored_under.Given as goal

abbrev pub invariant-loop-statement : goal.invariant-loop-statement
invariant-loop-statement l =
    map stored_view l.made.items ++ map (numbered_storage (all_names l.numbers)) (in_statements (statement_storage l.numbers (Some l.clock)) (drop l.statement-index l.statements)) ≡ map (numbered_storage (all_names l.numbers)) (in_statements (statement_storage l.numbers (Some l.clock)) l.statements)
