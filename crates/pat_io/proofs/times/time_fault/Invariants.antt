use Rattle.pat_io.proofs.Counted.{Reached}
use Rattle.pat_io.proofs.times.time_fault.Given as goal

abbrev pub invariant-loop-pattern : goal.invariant-loop-pattern
invariant-loop-pattern l = Reached l.patterns l.pattern-index l.before
