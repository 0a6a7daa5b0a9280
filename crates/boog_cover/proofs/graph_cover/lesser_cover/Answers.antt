use Rattle.std.proofs.Common.{◌∙◌, ◌*◌, ◌≤◌, Bool, List, Option, length, map, ap, subst, arith}
use Rattle.graph_theory.specs.Graph.{Node}
use Rattle.subject_table.specs.View.{node_view}
use Rattle.cell_match.specs.declared.gate.Gate.{Gate}
use Rattle.boog_tight.specs.Kept.{leaf_count}
use Rattle.boog_cuts.proofs.Whole.{map_long}
use Rattle.boog_cover.specs.Lesser.{ReadMarked}
use Rattle.boog_cover.proofs.Narrowing.{chosen_whole, left_covers, left_inside, narrowed}
use Rattle.boog_cover.proofs.graph_cover.lesser_cover.Goals as goal

pub needed-requires-clause-roots : goal.needed-requires-clause-roots
needed-requires-clause-roots g c = λ x some.
    let begun = chosen_whole c.args.cells.now c.requires.has c.args.held c.args.graph.now.nodes (map (λ v. v.items) c.in_ok-cuts.cuts.cuts.items) c.in_ok-begun.begun.items
    c.in_ok-cuts.ensures c.in_ok-begun.ensures in
    let many = (c.replaced-gates.ensures c.args.graph.now.nodes begun).many in
    let low = c.requires.roots x some in
    omega (arith, many, low)

pub needed-requires-clause-full : goal.needed-requires-clause-full
needed-requires-clause-full g c =
    let begun = chosen_whole c.args.cells.now c.requires.has c.args.held c.args.graph.now.nodes (map (λ v. v.items) c.in_ok-cuts.cuts.cuts.items) c.in_ok-begun.begun.items
    c.in_ok-cuts.ensures c.in_ok-begun.ensures in
    (c.replaced-gates.ensures c.args.graph.now.nodes begun).full

pub leaf_count-requires : goal.leaf_count-requires
leaf_count-requires g c =
    let begun = chosen_whole c.args.cells.now c.requires.has c.args.held c.args.graph.now.nodes (map (λ v. v.items) c.in_ok-cuts.cuts.cuts.items) c.in_ok-begun.begun.items
    c.in_ok-cuts.ensures c.in_ok-begun.ensures in
    let many = (c.replaced-gates.ensures c.args.graph.now.nodes begun).many in
    let long = c.in_ok-left.ensures.long in
    let room = c.requires.numbers in
    let same = ap (λ (gs : List (Option Gate)). length gs) c.deref-5.ensures.value in
    omega (arith, many, long, room, same)

pub tightened-requires-clause-cover : goal.tightened-requires-clause-cover
tightened-requires-clause-cover g c =
    let begun = chosen_whole c.args.cells.now c.requires.has c.args.held c.args.graph.now.nodes (map (λ v. v.items) c.in_ok-cuts.cuts.cuts.items) c.in_ok-begun.begun.items
    c.in_ok-cuts.ensures c.in_ok-begun.ensures in
    left_covers c.args.cells.now c.args.held c.args.graph.now.nodes c.replaced-gates.result.items c.in_ok-left.left.items c.args.roots.now
    (c.replaced-gates.ensures c.args.graph.now.nodes begun) c.in_ok-left.ensures

pub tightened-requires-clause-inside : goal.tightened-requires-clause-inside
tightened-requires-clause-inside g c =
    let begun = chosen_whole c.args.cells.now c.requires.has c.args.held c.args.graph.now.nodes (map (λ v. v.items) c.in_ok-cuts.cuts.cuts.items) c.in_ok-begun.begun.items
    c.in_ok-cuts.ensures c.in_ok-begun.ensures in
    left_inside c.args.cells.now c.args.held c.args.graph.now.nodes c.replaced-gates.result.items c.in_ok-left.left.items c.args.roots.now
    (c.replaced-gates.ensures c.args.graph.now.nodes begun) c.in_ok-left.ensures

pub tightened-requires-clause-room : goal.tightened-requires-clause-room
tightened-requires-clause-room g c =
    let begun = chosen_whole c.args.cells.now c.requires.has c.args.held c.args.graph.now.nodes (map (λ v. v.items) c.in_ok-cuts.cuts.cuts.items) c.in_ok-begun.begun.items
    c.in_ok-cuts.ensures c.in_ok-begun.ensures in
    let many = (c.replaced-gates.ensures c.args.graph.now.nodes begun).many in
    let long = c.in_ok-left.ensures.long in
    let room = c.requires.numbers in
    omega (arith, many, long, room)

pub returns : goal.returns
returns g c =
    let begun = chosen_whole c.args.cells.now c.requires.has c.args.held c.args.graph.now.nodes (map (λ v. v.items) c.in_ok-cuts.cuts.cuts.items) c.in_ok-begun.begun.items
    c.in_ok-cuts.ensures c.in_ok-begun.ensures in
    let left = c.in_ok-left.left.items in
    let counted = c.leaf_count.ensures ∙ ap (λ (gs : List (Option Gate)). leaf_count gs) c.deref-5.ensures.value in
    let view = ap (λ (ns : List Node). length ns) c.nodes.ensures in
    let many = map_long node_view c.nodes.result.now in
    let few : leaf_count left ≤ 2 * length c.args.graph.now.nodes = omega (arith, counted, view, many, c.if-leaf_count-nodes.false) in
    let reading : ReadMarked left c.in_ok-marks.marks.items =
    subst (λ (marks : List Bool). ReadMarked left marks) c.deref-7.ensures.value
    (subst (λ (gs : List (Option Gate)). ReadMarked gs c.deref-7.result.now) c.deref-6.ensures.value (c.are_marked.ensures c.if-not-are_marked.false)) in
    narrowed c.args.cells.now c.args.held c.args.graph.now.nodes c.replaced-gates.result.items left c.args.roots.now
    (c.replaced-gates.ensures c.args.graph.now.nodes begun) c.in_ok-left.ensures c.in_ok-last.last.items c.in_ok-marks.marks.items c.in_ok-marks.ensures
    reading few c.in_ok-last.ensures.keeps c.in_ok-last.ensures.tight
