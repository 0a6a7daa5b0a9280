use Rattle.delay_sta.proofs.Gathering.{AreSoFar}
use Rattle.delay_sta.proofs.graph.timed_arcs.Given as goal

abbrev pub invariant-loop-owner : goal.invariant-loop-owner
invariant-loop-owner l = AreSoFar l.netlist l.library l.arcs.items l.owner
