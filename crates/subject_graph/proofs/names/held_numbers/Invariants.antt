use Rattle.std.proofs.Common.{◌≡◌}
use Rattle.cell_model.specs.Access.{count_to}
use Rattle.subject_graph.proofs.names.held_numbers.Given as goal

abbrev pub invariant-loop-number : goal.invariant-loop-number
invariant-loop-number l = l.numbers.items ≡ count_to l.number
