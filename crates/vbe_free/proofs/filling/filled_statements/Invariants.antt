use Rattle.std.proofs.Common.{◌≡◌, map}
use Rattle.vbe_text.specs.Source.{statement_view}
use Rattle.vbe_free.specs.Filled.{filled_statement}
use Rattle.vbe_free.proofs.filling.filled_statements.Given as goal

abbrev pub invariant-loop-statement : goal.invariant-loop-statement
invariant-loop-statement l = map statement_view l.made.items ≡ map (λ x. filled_statement l.bit (statement_view x)) l.yielded
