use Rattle.delay_sta.proofs.Retiming.{ChangedSoFar}
use Rattle.delay_sta.proofs.exchange.change_arcs.Given as goal

abbrev pub invariant-loop-class : goal.invariant-loop-class
invariant-loop-class l = ChangedSoFar l.netlist l.library l.loads l.classes l.initial.arcs l.arcs l.class-index
