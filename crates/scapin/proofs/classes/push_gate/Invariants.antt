use Rattle.std.proofs.Common.{◌≡◌, ◌++◌, take, map}
use Rattle.scapin.specs.Classes.{pin_class}
use Rattle.scapin.proofs.classes.push_gate.Given as goal

abbrev pub invariant-loop-pin : goal.invariant-loop-pin
invariant-loop-pin l = l.classes.items ≡ l.fn.classes.items ++ map (pin_class l.lines l.part.inputs l.gate) (take l.pin-index l.part.pins)
