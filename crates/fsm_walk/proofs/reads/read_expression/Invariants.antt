use Rattle.std.proofs.Common.{◌≡◌, ◌++◌, drop}
use Rattle.fsm_walk.proofs.reads.read_expression.Given as goal

abbrev pub invariant-loop-k : goal.invariant-loop-k
invariant-loop-k l = l.found.items ++ drop l.k-index l.k-items ≡ l.initial.found.items ++ l.k-items
