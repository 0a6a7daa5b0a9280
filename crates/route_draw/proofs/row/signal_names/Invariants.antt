use Rattle.std.proofs.Common.{◌≡◌, map, filter, take}
use Rattle.ocp_place.specs.Nets.{is_signal}
use Rattle.route_draw.proofs.row.signal_names.Given as goal

abbrev pub invariant-loop-port : goal.invariant-loop-port
invariant-loop-port l = l.names.items ≡ filter is_signal (map (λ p. p.name) (take l.port-index l.ports))
