use Rattle.boog_cuts.proofs.Growing.{is_number}
use Rattle.boog_cuts.proofs.Sizes.{cut_fits}
use Rattle.boog_tree.proofs.Joining.{joined_more}
use Rattle.boog_tree.proofs.cuts.joined.Goals as goal

pub join_with-requires : goal.join_with-requires
join_with-requires g c =
    let at = is_number c.args.firsts.now c.loop-first.first-index c.first-item.result c.loop-first-test.true c.first-item.is in
    (cut_fits g.row.K c.requires.few, (c.requires.few, c.requires.once c.loop-first.first-index c.first-item.result at))

pub loop-first-preserved : goal.loop-first-preserved
loop-first-preserved g c =
    let at = is_number c.args.firsts.now c.loop-first.first-index c.first-item.result c.loop-first-test.true c.first-item.is in
    joined_more c.args.firsts.now c.args.seconds.now c.loop-first.cuts.items c.join_with.new.cuts.items c.loop-first.first-index c.first-item.result
    c.loop-first.invariant at c.in_ok-join_with.ensures
