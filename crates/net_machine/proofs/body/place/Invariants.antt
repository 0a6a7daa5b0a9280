use Rattle.std.proofs.Common.{◌≡◌, ◌+◌, drop}
use Rattle.source_checks.specs.Formula.{place}
use Rattle.net_machine.proofs.body.place.Given as goal

abbrev pub invariant-loop-k : goal.invariant-loop-k
invariant-loop-k l = l.k + place (drop l.k l.names) l.name ≡ place l.names l.name
