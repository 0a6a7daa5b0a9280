use Rattle.subject_graph.proofs.Showing.{Shows}
use Rattle.subject_graph.proofs.outputs.shown_numbers.Given as goal

abbrev pub invariant-loop-number : goal.invariant-loop-number
invariant-loop-number l = Shows l.fn.nodes.items l.nodes.items l.inputs l.held l.plain l.met l.shown.items l.number-index
