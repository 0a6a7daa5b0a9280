use Rattle.pat_io.proofs.Pieces.{Patterns}
use Rattle.pat_io.proofs.writer.patterns.Given as goal

abbrev pub invariant-loop-item : goal.invariant-loop-item
invariant-loop-item l = Patterns l.initial.out l.columns l.items l.item-index l.out
