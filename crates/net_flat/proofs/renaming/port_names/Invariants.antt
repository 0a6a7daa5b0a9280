use Rattle.std.proofs.Common.{◌≡◌, take}
use Rattle.machine_core.specs.Machine.{names_of}
use Rattle.net_flat.proofs.renaming.port_names.Given as goal

abbrev pub invariant-loop-port : goal.invariant-loop-port
invariant-loop-port l = l.names.items ≡ names_of (take l.port-index l.ports)
