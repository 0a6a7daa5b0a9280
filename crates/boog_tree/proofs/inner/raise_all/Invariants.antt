use Rattle.std.proofs.Common.{take}
use Rattle.boog_tree.specs.Counted.{IsRaised}
use Rattle.boog_tree.proofs.inner.raise_all.Given as goal

abbrev pub invariant-loop-number : goal.invariant-loop-number
invariant-loop-number l = IsRaised l.initial.uses (take l.number-index l.numbers) l.uses
