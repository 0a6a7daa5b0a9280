use Rattle.nero_rip.proofs.Apart.{placed_apart}
use Rattle.nero_rip.proofs.law.placed_trees_stay_apart.Goals as goal

pub returns : goal.returns
returns c = placed_apart c.placements_are_in_rows.ensures c.points_are_apart.ensures c.moves_keep_trees_apart.ensures
