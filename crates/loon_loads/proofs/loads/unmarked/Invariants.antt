use Rattle.std.proofs.Common.{◌≡◌, false, take, map}
use Rattle.loon_loads.proofs.loads.unmarked.Given as goal

abbrev pub invariant-loop : goal.invariant-loop
invariant-loop l = l.marks.items ≡ map (λ p. false) (take l.index l.ports)
