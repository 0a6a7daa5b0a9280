use Rattle.std.proofs.Common.{◌≡◌, ◌++◌, ◌+◌, ◌≤◌, drop, length}
use Rattle.boog_map.specs.Draft.{gate_spots, gate_drivers}
use Rattle.boog_map.proofs.place.Plan.put_gates.Given as goal

abbrev pub invariant-loop-gate : goal.invariant-loop-gate
invariant-loop-gate l = record {
  spots : l.self.spots.items ++ gate_spots (length l.self.drivers.items) l.count (drop l.gate-index l.gates)
      ≡ l.fn.self.spots.items ++ gate_spots (length l.fn.self.drivers.items) 0 l.gates;
  drivers : l.self.drivers.items ++ gate_drivers l.parts (length l.self.drivers.items) l.count (drop l.gate-index l.gates)
      ≡ l.fn.self.drivers.items ++ gate_drivers l.parts (length l.fn.self.drivers.items) 0 l.gates;
  number : length l.self.drivers.items ≡ length l.fn.self.drivers.items + l.gate-index;
  few : l.count ≤ l.gate-index;
}
