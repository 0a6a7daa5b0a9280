use Rattle.std.proofs.Common.{arith}
use Rattle.maze_rips.proofs.Working.{finishing_whole}
use Rattle.maze_rips.proofs.work.finish.Goals as goal

pub returns-clause-whole : goal.returns-clause-whole
returns-clause-whole c =
    finishing_whole c.args.task.now c.args.net c.loop-at.work c.requires.net c.loop-at.invariant.finishing.now.under_way
    (let a = c.loop-at-test.false in let b = c.count_points-count.ensures in let r = c.loop-at.invariant.reached in omega arith)
