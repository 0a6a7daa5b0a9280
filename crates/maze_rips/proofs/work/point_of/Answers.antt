use Rattle.std.proofs.Common.{◌≡◌, ◌<◌, List, length, Some, sym, subst}
use Rattle.std.specs.Prelude.{slice_get}
use Rattle.grid_core.specs.declared.grid.Node.{Node}
use Rattle.maze_nets.proofs.Running.{points_at}
use Rattle.maze_rips.proofs.work.point_of.Goals as goal

pub point-requires : goal.point-requires
point-requires c =
    let same = points_at c.args.task.now.nets.now c.args.net c.index-nets-net.result _ c.requires.net c.index-nets-net.is in
    subst (λ (xs : List Node). c.args.at < length xs) same c.requires.at

pub returns : goal.returns
returns c =
    let same = points_at c.args.task.now.nets.now c.args.net c.index-nets-net.result _ c.requires.net c.index-nets-net.is in
    subst (λ (xs : List Node). slice_get xs c.args.at ≡ Some c.point.result) (sym same) c.point.ensures
