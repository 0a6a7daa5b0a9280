use Rattle.std.proofs.Common.{None}
use Rattle.proof_cmp.proofs.Comparing.{IsComparing}
use Rattle.boom_check.proofs.checking.have_same_roots.Given as goal

abbrev pub invariant-loop-k : goal.invariant-loop-k
invariant-loop-k l = IsComparing l.m l.o l.budget l.k None
