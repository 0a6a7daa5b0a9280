use Rattle.delay_sta.proofs.Retiming.{RetimedSoFar}
use Rattle.delay_sta.proofs.exchange.change_group.Given as goal

abbrev pub invariant-loop-k : goal.invariant-loop-k
invariant-loop-k l = RetimedSoFar l.netlist l.library l.load l.initial.arcs l.arcs l.k
