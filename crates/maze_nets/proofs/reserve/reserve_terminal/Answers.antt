use Rattle.std.proofs.Common.{[], ◌∷◌}
use Rattle.grid_core.specs.Grid.{above}
use Rattle.maze_nets.proofs.Reserving.{taken_then, one_in}
use Rattle.maze_nets.proofs.reserve.reserve_terminal.Goals as goal

pub returns : goal.returns
returns c =
    taken_then c.args.occupied.now c.block.new.self c.block-2.new.self c.args.net (c.args.node ∷ []) (above c.args.node ∷ [])
    (λ p i. one_in c.args.occupied.now.grid c.args.node p c.requires.node i) c.block.ensures c.block-2.ensures
