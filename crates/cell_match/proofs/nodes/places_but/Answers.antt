use Rattle.std.proofs.Common.{arith, get_or}
use Rattle.cell_match.proofs.Reading.{place_most}
use Rattle.cell_match.proofs.nodes.places_but.Goals as goal

pub overflow_cast-place : goal.overflow_cast-place
overflow_cast-place c =
    let e = place_most (get_or c.args.leaves.now c.loop-leaf.leaf-index 0) c.args.nodes.now in
    let f = c.place.ensures in
    let few = c.requires.few_nodes in
    record { fits = omega (arith, e, f, few) }
