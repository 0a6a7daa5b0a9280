use Rattle.std.proofs.Common.{◌≡◌, map, take}
use Rattle.cell_function.specs.Timing.{pin_of}
use Rattle.cell_function.proofs.timing.pins_of.Given as goal

abbrev pub invariant-loop-port : goal.invariant-loop-port
invariant-loop-port l = l.pins.items ≡ map (pin_of l.generics) (take l.port-index l.ports)
