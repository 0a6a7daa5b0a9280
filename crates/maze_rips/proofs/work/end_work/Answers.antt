use Rattle.nero_maze.specs.Routing.{tree_of}
use Rattle.maze_rips.proofs.Laid.{trees_told}
use Rattle.maze_rips.proofs.work.end_work.Goals as goal

pub into_routes-requires : goal.into_routes-requires
into_routes-requires c = record { laid = λ k lt. (tree_of c.args.work.router k, c.requires.kept k lt) }

pub returns-clause-trees : goal.returns-clause-trees
returns-clause-trees c = record {
  size = c.in_ok-routes.ensures.size;
  same = trees_told c.args.work.paths (tree_of c.args.work.router) c.in_ok-routes.routes c.requires.kept c.requires.only c.in_ok-routes.ensures.trees;
}
