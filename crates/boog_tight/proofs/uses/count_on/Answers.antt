use Rattle.std.proofs.Common.{get_or, arith}
use Rattle.cell_match.proofs.Numbers.{times_some, times_here, put_on}
use Rattle.boog_tight.proofs.uses.count_on.Goals as goal

pub bounds-counts-leaf : goal.bounds-counts-leaf
bounds-counts-leaf c =
    let low = c.loop-leaf-test.true in
    let same = c.loop-leaf.auto.counts in
    let inside = c.requires.inside (get_or c.args.leaves.now c.loop-leaf.leaf-index 0) (times_some c.args.leaves.now c.loop-leaf.leaf-index low) in
    omega (arith, same, inside)

pub bounds-counts-leaf-in-loop-leaf : goal.bounds-counts-leaf-in-loop-leaf
bounds-counts-leaf-in-loop-leaf c =
    let low = c.loop-leaf-test.true in
    let same = c.loop-leaf.auto.counts in
    let inside = c.requires.inside (get_or c.args.leaves.now c.loop-leaf.leaf-index 0) (times_some c.args.leaves.now c.loop-leaf.leaf-index low) in
    omega (arith, same, inside)

pub overflow_add-counts : goal.overflow_add-counts
overflow_add-counts c =
    let low = c.loop-leaf-test.true in
    let y = get_or c.args.leaves.now c.loop-leaf.leaf-index 0 in
    let some = times_here c.args.leaves.now c.loop-leaf.leaf-index low in
    let room = c.requires.room y in
    let now = c.loop-leaf.invariant y in
    record { fits = omega (arith, some, room, now) }

pub loop-leaf-preserved : goal.loop-leaf-preserved
loop-leaf-preserved c =
    let low = c.loop-leaf-test.true in
    let y = get_or c.args.leaves.now c.loop-leaf.leaf-index 0 in
    let same = c.loop-leaf.auto.counts in
    let inside = c.requires.inside y (times_some c.args.leaves.now c.loop-leaf.leaf-index low) in
    put_on c.loop-leaf.counts c.args.leaves.now c.loop-leaf.leaf-index (λ x. get_or c.args.counts.now x 0) low (omega (arith, same, inside)) c.loop-leaf.invariant
