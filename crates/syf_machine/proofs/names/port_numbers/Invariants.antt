use Rattle.std.proofs.Common.{◌≡◌, ◌++◌, ◌≤◌, drop}
use Rattle.syf_machine.specs.Named.{numbers_from}
use Rattle.syf_machine.proofs.names.port_numbers.Given as goal

abbrev pub invariant-loop-port : goal.invariant-loop-port
invariant-loop-port l = record {
  few : l.next ≤ l.port-index;
  same : l.numbers.items ++ numbers_from l.next l.clock (drop l.port-index l.ports) ≡ numbers_from 0 l.clock l.ports;
}
