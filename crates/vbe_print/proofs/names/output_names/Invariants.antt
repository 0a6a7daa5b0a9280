use Rattle.std.proofs.Common.{◌≡◌, not, map, filter, take}
use Rattle.machine_core.specs.Machine.{is_input}
use Rattle.vbe_print.proofs.names.output_names.Given as goal

abbrev pub invariant-loop-port : goal.invariant-loop-port
invariant-loop-port l = l.names.items ≡ map (λ p. p.name) (filter (λ p. not (is_input p.dir)) (take l.port-index l.ports))
