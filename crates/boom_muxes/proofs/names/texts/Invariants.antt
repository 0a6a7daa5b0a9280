use Rattle.std.proofs.Common.{◌≡◌, ◌++◌, take}
use Rattle.machine_core.specs.Machine.{names_of}
use Rattle.boom_muxes.specs.Names.{texts_of}
use Rattle.boom_muxes.proofs.names.texts.Given as goal

abbrev pub invariant-loop-port : goal.invariant-loop-port
invariant-loop-port l = l.texts.items ≡ texts_of (names_of (take l.port-index l.ports))

abbrev pub invariant-loop-name : goal.invariant-loop-name
invariant-loop-name l = l.texts.items ≡ texts_of (names_of l.ports ++ take l.name-index l.names)
