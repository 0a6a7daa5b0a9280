use Rattle.std.proofs.Common.{◌≡◌, map, take}
use Rattle.fsm_print.proofs.words.port_names.Given as goal

abbrev pub invariant-loop-port : goal.invariant-loop-port
invariant-loop-port l = l.names.items ≡ map (λ p. p.name) (take l.port-index l.ports)
