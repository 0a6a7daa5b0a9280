use Rattle.boog_tree.proofs.Covering.{picks_cover}
use Rattle.boog_tree.proofs.least.least_area.Goals as goal

pub returns : goal.returns
returns c = record {
  trees = c.in_ok-trees.ensures;
  picks = c.in_ok-picks.ensures.picks;
  bounds = c.in_ok-picks.ensures.bounds;
  covers = picks_cover c.args.cells.now c.args.areas.now c.args.held c.args.graph.now c.in_ok-picks.field-0.bounds.items c.in_ok-picks.field-0.picks.items
      c.requires.earlier c.in_ok-picks.ensures.picks;
}
