use Rattle.std.specs.Ordering.{nat_cmp}
use Rattle.std.specs.BTreeMap.{get}
use Rattle.net_core.proofs.InTurns.{Numbered}
use Rattle.net_core.proofs.turns.numbers.Given as goal

abbrev pub invariant-loop-label : goal.invariant-loop-label
invariant-loop-label l = Numbered l.labels l.label-index l.classes.items l.count (get nat_cmp l.met)
