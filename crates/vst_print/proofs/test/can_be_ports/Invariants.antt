use Rattle.vst_print.proofs.Tested.{Tested}
use Rattle.vst_print.proofs.test.can_be_ports.Given as goal

abbrev pub invariant-loop-k : goal.invariant-loop-k
invariant-loop-k l = Tested l.ports l.k
