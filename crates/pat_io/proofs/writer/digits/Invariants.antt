use Rattle.pat_io.proofs.Pieces.{Spelled}
use Rattle.pat_io.proofs.writer.digits.Given as goal

abbrev pub invariant-loop-step : goal.invariant-loop-step
invariant-loop-step l = Spelled l.initial.out l.each l.count l.bits l.step l.out l.rest
