use Rattle.std.proofs.Common.{◌≡◌, ◌++◌, take, map}
use Rattle.scapin.specs.Classes.{part_for}
use Rattle.scapin.specs.Inserted.{gate_entry}
use Rattle.scapin.proofs.insert.push_gates.Given as goal

abbrev pub invariant-loop-gate : goal.invariant-loop-gate
invariant-loop-gate l = l.entries.items ≡ l.fn.entries.items ++ map (λ g. gate_entry (part_for l.parts g) g) (take l.gate-index l.gates)
