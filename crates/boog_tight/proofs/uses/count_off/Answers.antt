use Rattle.std.proofs.Common.{get_or, arith}
use Rattle.cell_match.proofs.Numbers.{times_some, times_here, taken_off}
use Rattle.boog_tight.proofs.uses.count_off.Goals as goal

pub bounds-counts-leaf : goal.bounds-counts-leaf
bounds-counts-leaf c =
    let low = c.loop-leaf-test.true in
    let same = c.loop-leaf.auto.counts in
    let inside = c.requires.inside (get_or c.args.leaves.now c.loop-leaf.leaf-index 0) (times_some c.args.leaves.now c.loop-leaf.leaf-index low) in
    omega (arith, same, inside)

pub bounds-counts-leaf-in-loop-leaf : goal.bounds-counts-leaf-in-loop-leaf
bounds-counts-leaf-in-loop-leaf c =
    let low = c.loop-leaf-test.true in
    let same = c.loop-leaf.auto.counts in
    let inside = c.requires.inside (get_or c.args.leaves.now c.loop-leaf.leaf-index 0) (times_some c.args.leaves.now c.loop-leaf.leaf-index low) in
    omega (arith, same, inside)

pub overflow_sub-counts : goal.overflow_sub-counts
overflow_sub-counts c =
    let low = c.loop-leaf-test.true in
    let y = get_or c.args.leaves.now c.loop-leaf.leaf-index 0 in
    let some = times_here c.args.leaves.now c.loop-leaf.leaf-index low in
    let enough = c.requires.enough y in
    let now = c.loop-leaf.invariant y in
    omega (arith, some, enough, now)

pub loop-leaf-preserved : goal.loop-leaf-preserved
loop-leaf-preserved c =
    let low = c.loop-leaf-test.true in
    let y = get_or c.args.leaves.now c.loop-leaf.leaf-index 0 in
    let same = c.loop-leaf.auto.counts in
    let inside = c.requires.inside y (times_some c.args.leaves.now c.loop-leaf.leaf-index low) in
    let some = times_here c.args.leaves.now c.loop-leaf.leaf-index low in
    let enough = c.requires.enough y in
    let now = c.loop-leaf.invariant y in
    taken_off c.loop-leaf.counts c.args.leaves.now c.loop-leaf.leaf-index (λ x. get_or c.args.counts.now x 0) low (omega (arith, same, inside)) (omega (arith, some, enough, now)) c.loop-leaf.invariant
