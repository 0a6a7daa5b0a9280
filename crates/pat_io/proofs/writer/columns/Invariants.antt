use Rattle.pat_io.proofs.Pieces.{Columns}
use Rattle.pat_io.proofs.writer.columns.Given as goal

abbrev pub invariant-loop-item : goal.invariant-loop-item
invariant-loop-item l = Columns l.initial.out l.items l.item-index l.out
