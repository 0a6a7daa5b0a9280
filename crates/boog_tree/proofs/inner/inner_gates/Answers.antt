use Rattle.std.proofs.Common.{◌<◌, ℕ, List, length, ap, subst, arith}
use Rattle.graph_theory.specs.Graph.{Node}
use Rattle.subject_table.specs.View.{node_view}
use Rattle.boog_cuts.proofs.Whole.{map_long}
use Rattle.boog_tree.specs.Trees.{pin_uses}
use Rattle.boog_tree.proofs.Counting.{uses_inside}
use Rattle.boog_tree.proofs.inner.inner_gates.Goals as goal

pub count_pins-requires-clause-inside : goal.count_pins-requires-clause-inside
count_pins-requires-clause-inside c = λ x some.
    let few = uses_inside c.args.held c.args.graph.now.nodes c.requires.earlier x (subst (λ (l : List Node). 0 < pin_uses x l) c.nodes-2.ensures some) in
    let same = ap (λ (l : List ℕ). length l) c.deref_mut.ensures.value in
    let many = ap (λ (l : List Node). length l) c.nodes.ensures in
    let long = map_long node_view c.nodes.result.now in
    omega (arith, few, same, many, long, c.in_ok-by_pins.ensures.len)
