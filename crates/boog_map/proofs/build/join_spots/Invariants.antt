use Rattle.std.proofs.Common.{◌≡◌, map, take}
use Rattle.std.specs.List.{flat_map}
use Rattle.boog_map.specs.Draft.{spot_signals, join_of, with_joins}
use Rattle.boog_map.proofs.build.join_spots.Given as goal

abbrev pub invariant-loop-spot : goal.invariant-loop-spot
invariant-loop-spot l =
    l.builder ≡ with_joins l.fn.builder (map (join_of l.sketch.drivers) (flat_map (spot_signals l.sketch.parts) (take l.spot-index l.sketch.spots.items)))
