use Rattle.std.proofs.Common.{length}
use Rattle.grammar_theory.specs.Outcome.{list_at}
use Rattle.grammar_theory.proofs.Listing.{Listed}
use Rattle.pat_text.specs.Reading.{column_at, column_firsts}
use Rattle.pat_text.proofs.columns.columns.Given as goal

abbrev pub invariant-loop-cursor : goal.invariant-loop-cursor
invariant-loop-cursor l = Listed column_firsts column_at l.columns.items l.cursor (list_at column_firsts column_at l.initial.cursor)

abbrev pub decreases-loop-cursor : goal.decreases-loop-cursor
decreases-loop-cursor l = length l.cursor.rest
