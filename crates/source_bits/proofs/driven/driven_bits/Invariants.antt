use Rattle.std.proofs.Common.{◌≡◌, ◌++◌, map, drop}
use Rattle.source_checks.specs.Symbols.{all_names}
use Rattle.source_checks.specs.Places.{in_statements}
use Rattle.source_checks.specs.Elaboration.{statement_definitions}
use Rattle.source_bits.specs.Driven.{driven_view, numbered_definition}
use Rattle.source_bits.proofs.driven.driven_bits.Given as goal

abbrev pub invariant-loop-statement : goal.invariant-loop-statement
invariant-loop-statement l =
    map driven_view l.made.items ++ map (numbered_definition (all_names l.numbers)) (in_statements (statement_definitions l.numbers) (drop l.statement-index l.statements)) ≡ map (numbered_definition (all_names l.numbers)) (in_statements (statement_definitions l.numbers) l.statements)
