use Rattle.pat_io.proofs.Pieces.{Values}
use Rattle.pat_io.proofs.writer.values.Given as goal

abbrev pub invariant-loop-k : goal.invariant-loop-k
invariant-loop-k l = Values l.initial.out l.columns l.items l.k l.out
