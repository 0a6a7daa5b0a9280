use Rattle.delay_sta.proofs.Loading.{Summed}
use Rattle.delay_sta.proofs.loads.sums.Given as goal

abbrev pub invariant-loop-k : goal.invariant-loop-k
invariant-loop-k l = Summed l.capacitances l.classes l.sums.items l.count l.k
