use Rattle.asimut_sim.proofs.ProgramLemmas.{Ran}
use Rattle.asimut_sim.proofs.program.Program.run.Given as goal

abbrev pub invariant-loop-k : goal.invariant-loop-k
invariant-loop-k l = Ran l.self l.fn.bits l.bits l.k
