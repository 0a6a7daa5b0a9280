use Rattle.subject_graph.proofs.Looking.{Looks}
use Rattle.subject_graph.proofs.names.output_numbers.Given as goal

abbrev pub invariant-loop-port : goal.invariant-loop-port
invariant-loop-port l = Looks l.names l.numbers l.ports l.port-index l.found.items
