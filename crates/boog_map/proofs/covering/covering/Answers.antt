use Rattle.std.proofs.Common.{◌∙◌}
use Rattle.boog_map.proofs.Rooms.{roots_fit, roots_below}
use Rattle.boog_map.proofs.covering.covering.Goals as goal

pub cover-requires-clause-numbers : goal.cover-requires-clause-numbers
cover-requires-clause-numbers c =
    roots_fit c.args.machine.now c.args.graph.now c.requires.graph c.requires.few c.held_count.result c.deref.result.now c.held_count.ensures
    (c.deref.ensures.value ∙ c.in_ok-roots.ensures)

pub cover-requires-clause-roots : goal.cover-requires-clause-roots
cover-requires-clause-roots c =
    roots_below c.args.machine.now c.args.graph.now c.requires.graph c.held_count.result c.deref.result.now c.held_count.ensures
    (c.deref.ensures.value ∙ c.in_ok-roots.ensures)
