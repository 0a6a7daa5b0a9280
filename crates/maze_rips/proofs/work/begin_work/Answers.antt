use Rattle.maze_rips.proofs.Working.{fresh_work}
use Rattle.maze_rips.proofs.work.begin_work.Goals as goal

pub returns-clause-begun : goal.returns-clause-begun
returns-clause-begun c =
    fresh_work c.args.task.now _ c.in_ok-router.ensures.bare c.in_ok-router.ensures.reserved c.in_ok-paths.ensures.size c.in_ok-paths.ensures.none c.new.ensures.items
