use Rattle.std.proofs.Common.{rules}
use Rattle.real_boxes.proofs.Firsts.{lost_at}
use Rattle.real_boxes.proofs.judging.keep_metal.Goals as goal

pub returns-then-not-branch-clause-refused : goal.returns-then-not-branch-clause-refused
returns-then-not-branch-clause-refused c =
    let refused =
    lost_at c.args.table.now c.args.marks.now c.loop-mark.mark-index c.mark-item.result c.lost.result c.loop-mark-test.true c.mark-item.is c.loop-mark.invariant
    (search rules) c.lost.ensures in
    search rules
