use Rattle.std.proofs.Common.{◌≡◌, ◌++◌, map, drop}
use Rattle.boog_map.specs.Draft.{register_spots, output_terminal}
use Rattle.boog_map.proofs.place.Plan.put_registers.Given as goal

abbrev pub invariant-loop-k : goal.invariant-loop-k
invariant-loop-k l = record {
  spots : l.self.spots.items ++ register_spots l.first l.k (drop l.k l.loads)
      ≡ l.fn.self.spots.items ++ register_spots l.first 0 l.loads;
  drivers : l.self.drivers.items ++ map (output_terminal l.parts) (register_spots l.first l.k (drop l.k l.loads))
      ≡ l.fn.self.drivers.items ++ map (output_terminal l.parts) (register_spots l.first 0 l.loads);
}
