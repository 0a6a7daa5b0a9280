use Rattle.pat_text.specs.Reading.{values_at}
use Rattle.pat_text.proofs.Loops.{Valued}
use Rattle.pat_text.proofs.patterns.values.Given as goal

abbrev pub invariant-loop-column : goal.invariant-loop-column
invariant-loop-column l = Valued l.columns l.column-index l.values.items l.cursor (values_at l.columns l.initial.cursor)
