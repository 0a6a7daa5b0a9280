use Rattle.vst_print.proofs.Joined.{Maps}
use Rattle.vst_print.proofs.instances.mappings.Given as goal

abbrev pub invariant-loop-k : goal.invariant-loop-k
invariant-loop-k l = Maps l.fn.out l.nets l.pins l.classes l.k l.out
