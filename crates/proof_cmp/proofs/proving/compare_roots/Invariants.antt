use Rattle.proof_cmp.proofs.Comparing.{IsComparing}
use Rattle.proof_cmp.proofs.proving.compare_roots.Given as goal

abbrev pub invariant-loop-k : goal.invariant-loop-k
invariant-loop-k l = IsComparing l.machines.first.now l.machines.second.now l.budget l.k l.found
