use Rattle.std.proofs.Common.{◌≡◌, take}
use Rattle.net_flat.specs.Taken.{port_texts}
use Rattle.net_flat.proofs.taken.port_texts.Given as goal

abbrev pub invariant-loop-port : goal.invariant-loop-port
invariant-loop-port l = l.texts.items ≡ port_texts (take l.port-index l.ports)
