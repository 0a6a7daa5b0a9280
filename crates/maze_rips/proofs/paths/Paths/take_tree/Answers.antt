use Rattle.maze_rips.specs.Paths.{paths_in}
use Rattle.std.proofs.Common.{ap, ◌∙◌, ◌++◌}
use Rattle.std.specs.Option.{option_to_list}
use Rattle.maze_rips.proofs.Laid.{tree_laid}
use Rattle.maze_rips.proofs.paths.Paths.take_tree.Goals as goal

pub returns-clause-tree : goal.returns-clause-tree
returns-clause-tree c =
    tree_laid (paths_in c.args.self.now c.args.net) (paths_in c.loop-path.self c.args.net) c.loop-path.taken.items c.pop.new.self.items c.reverse.new.self.items c.in-Some-pop.first
    c.index.result.now c.requires.laid c.in_default.ensures.none c.loop-path.invariant.all (c.pop.ensures.items ∙ ap (λ o. c.pop.new.self.items ++ option_to_list o) c.in-Some-pop.is)
    c.reverse.ensures.items c.index.ensures
