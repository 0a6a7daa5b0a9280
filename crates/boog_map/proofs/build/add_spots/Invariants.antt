use Rattle.std.proofs.Common.{◌≡◌, map, take}
use Rattle.boog_map.specs.Draft.{instance_of, with_instances}
use Rattle.boog_map.proofs.build.add_spots.Given as goal

abbrev pub invariant-loop-spot : goal.invariant-loop-spot
invariant-loop-spot l = l.builder ≡ with_instances l.fn.builder (map (instance_of l.parts) (take l.spot-index l.spots))
