use Rattle.std.proofs.Common.{◌≡◌, filter, take}
use Rattle.machine_core.specs.Machine.{names_of}
use Rattle.syf_machine.specs.Named.{is_read}
use Rattle.syf_machine.proofs.names.inputs.Given as goal

abbrev pub invariant-loop-port : goal.invariant-loop-port
invariant-loop-port l = l.names.items ≡ names_of (filter (is_read l.clock) (take l.port-index l.ports))
