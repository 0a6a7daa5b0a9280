use Rattle.std.proofs.Common.{◌≡◌, ◌++◌, take, map}
use Rattle.net_core.specs.Netlist.{pin_of}
use Rattle.scan_build.proofs.sketch.push_pins.Given as goal

abbrev pub invariant-loop-pin : goal.invariant-loop-pin
invariant-loop-pin l = l.terminals.items ≡ l.initial.terminals.items ++ map (pin_of l.owner) (take l.pin-index l.pins)
