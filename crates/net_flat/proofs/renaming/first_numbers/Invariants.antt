use Rattle.std.proofs.Common.{◌≡◌}
use Rattle.vlsi_base.specs.Range.{rising}
use Rattle.net_flat.proofs.renaming.first_numbers.Given as goal

abbrev pub invariant-loop-k : goal.invariant-loop-k
invariant-loop-k l = l.numbers.items ≡ rising 0 l.k
