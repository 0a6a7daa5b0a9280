use Rattle.std.proofs.Common.{◌≡◌, ◌++◌, filter, drop}
use Rattle.vlsi_base.specs.Names.{comes_before}
use Rattle.scapin.proofs.ports.push_behind.Given as goal

abbrev pub invariant-loop-port : goal.invariant-loop-port
invariant-loop-port l =
    l.made.items ++ filter (λ p. comes_before l.name p.name) (drop l.port-index l.ports)
    ≡ l.fn.made.items ++ filter (λ p. comes_before l.name p.name) l.ports
