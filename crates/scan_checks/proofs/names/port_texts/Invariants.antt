use Rattle.std.proofs.Common.{◌≡◌, ◌++◌, drop, map}
use Rattle.scan_checks.proofs.names.port_texts.Given as goal

abbrev pub invariant-loop-port : goal.invariant-loop-port
invariant-loop-port l = l.texts.items ++ map (λ p. p.name.text) (drop l.port-index l.ports) ≡ map (λ p. p.name.text) l.ports
