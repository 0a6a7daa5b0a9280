use Rattle.scan_build.proofs.Adding.{order_now, room_now, memory_now, added_now}
use Rattle.scan_build.proofs.sketch.add_all.Goals as goal

pub add-requires-clause-order : goal.add-requires-clause-order
add-requires-clause-order c =
    order_now c.args.builder.now c.loop-entry.builder c.args.entries.now c.loop-entry.entry-index c.entry-item.result c.requires c.loop-entry.invariant c.loop-entry-test.true c.entry-item.is

pub add-requires-clause-room : goal.add-requires-clause-room
add-requires-clause-room c =
    room_now c.args.builder.now c.loop-entry.builder c.args.entries.now c.loop-entry.entry-index c.entry-item.result c.requires c.loop-entry.invariant c.loop-entry-test.true c.entry-item.is

pub only_memory-requires : goal.only_memory-requires
only_memory-requires c =
    memory_now c.args.builder.now c.loop-entry.builder c.args.entries.now c.loop-entry.entry-index c.entry-item.result c.requires c.loop-entry.invariant c.loop-entry-test.true c.entry-item.is
    c.in-Err.error c.in-Err.ensures.refused

pub loop-entry-preserved : goal.loop-entry-preserved
loop-entry-preserved c =
    added_now c.args.builder.now c.loop-entry.builder c.args.entries.now c.loop-entry.entry-index c.entry-item.result c.requires c.loop-entry.invariant c.loop-entry-test.true c.entry-item.is
    c.add.new.self c.in-Ok.ensures.added
