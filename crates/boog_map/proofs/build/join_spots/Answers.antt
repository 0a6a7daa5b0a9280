use Rattle.std.proofs.Common.{◌≡◌, ◌<◌, List, length, map, take, subst, get_or}
use Rattle.std.specs.List.{flat_map}
use Rattle.boog_map.specs.declared.place.Spot.{Spot}
use Rattle.boog_map.specs.Draft.{spot_signals, join_of}
use Rattle.boog_map.proofs.Joining.{lent_some}
use Rattle.boog_map.proofs.build.join_spots.Goals as goal

pub join_pins-requires : goal.join_pins-requires
join_pins-requires c =
    let k = c.args.sketch.now in
    let i = c.loop-spot.spot-index in
    lent_some c.args.builder.now c.loop-spot.builder (map (join_of k.drivers) (flat_map (spot_signals k.parts) (take i k.spots.items))) k.drivers (spot_signals k.parts) k.spots.items i
    c.spot-item.result c.requires c.loop-spot.invariant (subst (λ (xs : List Spot). i < length xs) c.deref-spot-items.ensures.value c.loop-spot-test.true)
    (subst (λ (xs : List Spot). c.spot-item.result ≡ get_or xs i c.spot-item.result) c.deref-spot-items.ensures.value c.spot-item.is)
