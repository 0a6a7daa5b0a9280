use Rattle.boog_cuts.proofs.Growing.{is_number}
use Rattle.boog_tree.proofs.Joining.{inverses_more}
use Rattle.boog_tree.proofs.cuts.inverses.Goals as goal

pub loop-cut-preserved : goal.loop-cut-preserved
loop-cut-preserved g c =
    let at = is_number c.args.first.now c.loop-cut.cut-index c.cut-item.result c.loop-cut-test.true c.cut-item.is in
    inverses_more c.args.first.now c.loop-cut.cuts.items c.push.new.self.items c.loop-cut.cut-index c.cut-item.result c.inverse.result c.loop-cut.invariant at
    c.in_ok-push.ensures.items (record { leaves = c.inverse.ensures.leaves; value = c.inverse.ensures.value })
