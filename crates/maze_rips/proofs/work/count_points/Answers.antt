use Rattle.std.proofs.Common.{length, sym, ap, ◌∙◌}
use Rattle.maze_nets.proofs.Running.{points_at}
use Rattle.maze_rips.proofs.work.count_points.Goals as goal

pub returns : goal.returns
returns c =
    let same = points_at c.args.task.now.nets.now c.args.net c.index-nets-net.result _ c.requires c.index-nets-net.is in
    c.len.ensures ∙ ap length (sym same)
