use Rattle.std.proofs.Common.{◌≡◌, ◌++◌, drop}
use Rattle.boog_map.specs.Draft.{node_signals}
use Rattle.boog_map.proofs.place.node_signals.Given as goal

abbrev pub invariant-loop-number : goal.invariant-loop-number
invariant-loop-number l = l.signals.items ++ node_signals (drop l.number-index l.numbers) ≡ node_signals l.numbers
