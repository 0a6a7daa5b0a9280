use Rattle.pat_io.proofs.Pieces.{Spells}
use Rattle.pat_io.proofs.writer.digit.Given as goal

abbrev pub invariant-loop-bit : goal.invariant-loop-bit
invariant-loop-bit l = Spells l.bits l.bit-index l.value
