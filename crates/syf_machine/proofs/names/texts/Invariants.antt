use Rattle.std.proofs.Common.{◌≡◌, take}
use Rattle.syf_machine.specs.Named.{texts_of}
use Rattle.syf_machine.proofs.names.texts.Given as goal

abbrev pub invariant-loop-port : goal.invariant-loop-port
invariant-loop-port l = l.texts.items ≡ texts_of (take l.port-index l.ports)
