use Rattle.std.proofs.Common.{◌≡◌, ◌++◌, take}
use Rattle.std.specs.List.{flat_map}
use Rattle.scapin.specs.Classes.{gate_classes}
use Rattle.scapin.proofs.classes.push_gates.Given as goal

abbrev pub invariant-loop-gate : goal.invariant-loop-gate
invariant-loop-gate l = l.classes.items ≡ l.fn.classes.items ++ flat_map (gate_classes l.lines l.parts) (take l.gate-index l.gates)
