use Rattle.std.proofs.Common.{◌≡◌, ◌++◌, ◌+◌, ◌≤◌, drop, length, filter, not}
use Rattle.std.specs.Option.{option_copied}
use Rattle.machine_core.specs.Machine.{is_input}
use Rattle.boog_map.specs.Draft.{tied_ports}
use Rattle.boog_map.proofs.ports.tied_ports.Given as goal

abbrev pub invariant-loop-port : goal.invariant-loop-port
invariant-loop-port l = record {
  tied : l.tied.items ++ tied_ports (option_copied l.clock) l.outputs l.counts.inputs l.counts.outputs (drop l.port-index l.ports)
      ≡ tied_ports (option_copied l.clock) l.outputs 0 0 l.ports;
  inputs : l.counts.inputs ≤ l.port-index;
  outputs : l.counts.outputs + length (filter (λ p. not (is_input p.dir)) (drop l.port-index l.ports)) ≤ length l.outputs;
}
