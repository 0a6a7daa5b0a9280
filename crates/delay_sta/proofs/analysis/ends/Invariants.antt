use Rattle.delay_sta.proofs.Edges.{EndedSoFar}
use Rattle.delay_sta.proofs.analysis.ends.Given as goal

abbrev pub invariant-loop-node : goal.invariant-loop-node
invariant-loop-node l = EndedSoFar l.netlist l.library l.ends.items l.node-index
