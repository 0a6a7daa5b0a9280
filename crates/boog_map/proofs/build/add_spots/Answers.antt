use Rattle.boog_map.proofs.Adding.{order_now, room_now, memory_now}
use Rattle.boog_map.proofs.build.add_spots.Goals as goal

pub add-requires-clause-order : goal.add-requires-clause-order
add-requires-clause-order c =
    order_now c.args.builder.now c.loop-spot.builder c.args.parts.now c.args.spots.now c.loop-spot.spot-index c.spot-item.result c.requires c.loop-spot.invariant c.loop-spot-test.true c.spot-item.is
    c.of-part.result.now c.of-part.ensures

pub add-requires-clause-room : goal.add-requires-clause-room
add-requires-clause-room c =
    room_now c.args.builder.now c.loop-spot.builder c.args.parts.now c.args.spots.now c.loop-spot.spot-index c.spot-item.result c.requires c.loop-spot.invariant c.loop-spot-test.true c.spot-item.is
    c.of-part.result.now c.of-part.ensures

pub only_memory-requires : goal.only_memory-requires
only_memory-requires c =
    memory_now c.args.builder.now c.loop-spot.builder c.args.parts.now c.args.spots.now c.loop-spot.spot-index c.spot-item.result c.requires c.loop-spot.invariant c.loop-spot-test.true c.spot-item.is
    c.in-Err.error c.in-Err.ensures.refused
