use Rattle.std.proofs.Common.{◌≡◌, take, map}
use Rattle.net_right.specs.Writable.{port_of}
use Rattle.vst_print.proofs.groups.pin_ports.Given as goal

abbrev pub invariant-loop-pin : goal.invariant-loop-pin
invariant-loop-pin l = l.ports.items ≡ map port_of (take l.pin-index l.pins)
