use Rattle.std.proofs.Common.{◌≡◌, map, take}
use Rattle.boog_map.specs.Draft.{join_of, with_joins}
use Rattle.boog_map.specs.Tied.{part_of}
use Rattle.boog_map.proofs.Pins.{pin_signals}
use Rattle.boog_map.proofs.build.join_pins.Given as goal

abbrev pub invariant-loop-pin : goal.invariant-loop-pin
invariant-loop-pin l = l.builder ≡ with_joins l.fn.builder (map (join_of l.drivers) (pin_signals l.spot (take l.pin-index (part_of l.parts l.spot.role).ties.items)))
