use Rattle.net_core.proofs.Rings.{ChosenSoFar}
use Rattle.net_core.proofs.cycle.ring_links.Given as goal

abbrev pub invariant-loop-k : goal.invariant-loop-k
invariant-loop-k l = ChosenSoFar l.groups l.ring l.chosen.items l.k
