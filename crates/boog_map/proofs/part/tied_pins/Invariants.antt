use Rattle.std.proofs.Common.{◌≡◌, ◌++◌, map, drop}
use Rattle.boog_map.specs.Tied.{tied_pin}
use Rattle.boog_map.proofs.part.tied_pins.Given as goal

abbrev pub invariant-loop-port : goal.invariant-loop-port
invariant-loop-port l = l.ties.items ++ map (tied_pin l.reads) (drop l.port-index l.ports) ≡ map (tied_pin l.reads) l.ports
