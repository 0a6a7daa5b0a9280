use Rattle.std.proofs.Common.{◌≡◌, drop, slice_get}
use Rattle.nero_nets.specs.Terminals.{signals_among}
use Rattle.nero_nets.proofs.terminals.push_port.Given as goal

abbrev pub invariant-loop-port : goal.invariant-loop-port
invariant-loop-port l = record {
  made : l.made.items ≡ l.initial.made.items;
  left : slice_get (signals_among (drop l.port-index l.ports)) l.left ≡ slice_get (signals_among l.ports) l.rank;
}
