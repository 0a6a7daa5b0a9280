use Rattle.std.proofs.Common.{false, map, get_or, arith}
use Rattle.subject_table.specs.View.{node_view}
use Rattle.subject_table.specs.declared.table.Node.TheVariants as kind
use Rattle.boog_cuts.proofs.Growing.{number_map}
use Rattle.boog_cuts.proofs.Whole.{read_number}
use Rattle.boog_tree.proofs.Open.{uses_part}
use Rattle.boog_tree.proofs.Counting.{uses_next}
use Rattle.boog_tree.proofs.inner.count_pins.Goals as goal

pub raise_pins-requires : goal.raise_pins-requires
raise_pins-requires c = λ x some.
    let ns = c.args.nodes.now in
    let i = c.loop-node.node-index in
    let one = get_or ns i (kind.Fixed false) in
    let at = number_map node_view ns i one (read_number ns i (kind.Fixed false) c.loop-node-test.true) in
    let part = (uses_part x (map node_view ns) i (node_view one) at).1 in
    let inside = c.requires.inside x (omega (arith, part, some)) in
    let same = c.loop-node.auto.uses in
    omega (arith, inside, same)

pub loop-node-preserved : goal.loop-node-preserved
loop-node-preserved c = λ x.
    let ns = c.args.nodes.now in
    let i = c.loop-node.node-index in
    let one = get_or ns i (kind.Fixed false) in
    let at = number_map node_view ns i one (read_number ns i (kind.Fixed false) c.loop-node-test.true) in
    let next = uses_next x (map node_view ns) i (node_view one) at in
    let before = c.loop-node.invariant x in
    let raised = c.raise_pins.ensures.each x in
    omega (arith, next, before, raised)
