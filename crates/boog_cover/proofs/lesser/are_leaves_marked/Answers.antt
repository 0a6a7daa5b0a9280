use Rattle.boog_cover.proofs.Narrowing.{leaf_marked}
use Rattle.boog_cover.proofs.lesser.are_leaves_marked.Goals as goal

pub loop-leaf-preserved : goal.loop-leaf-preserved
loop-leaf-preserved c =
    leaf_marked c.args.leaves.now c.args.marks.now c.loop-leaf.leaf-index c.loop-leaf-test.true c.if-not-marks-at.false c.loop-leaf.invariant
