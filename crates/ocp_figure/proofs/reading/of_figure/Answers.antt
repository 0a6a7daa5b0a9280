use Rattle.std.proofs.Common.{ℕ, List, map, length, ap, subst, arith}
use Rattle.std.specs.Global.{Vec}
use Rattle.std.proofs.lemmas.List.{length-map}
use Rattle.sym_geom.specs.declared.item.Item.{Item}
use Rattle.cell_model.specs.Layout.{instances_of}
use Rattle.net_core.specs.Frame.{instance_of}
use Rattle.ocp_figure.specs.Stands.{stands_from, AreReadRows}
use Rattle.ocp_figure.proofs.Few.{few_instances}
use Rattle.ocp_figure.proofs.Placed.{other_count, other_drawing}
use Rattle.ocp_figure.proofs.reading.of_figure.Goals as goal

pub returns-then-instance_count-nodes-clause-refused : goal.returns-then-instance_count-nodes-clause-refused
returns-then-instance_count-nodes-clause-refused c e =
    let n = c.args.netlist.now in
    let count = c.instance_count.ensures in
    let items = ap (λ (is : List Item). length (instances_of is)) c.as_slice-items.ensures in
    let nodes = ap length c.nodes.ensures.seen in
    let many = length-map c.nodes.result.now (instance_of n.models) in
    let apart = c.if-instance_count-nodes.true in
    other_count c.args.library.now n c.args.figure.now c.placements_are_in_rows.ensures (λ same. omega (arith, count, items, nodes, many, apart, same))

pub read_rows-requires-clause-count : goal.read_rows-requires-clause-count
read_rows-requires-clause-count c =
    let n = c.args.netlist.now in
    let classes = ap length c.classes.ensures.classes in
    let low = c.classes.ensures.few in
    let few = few_instances c.args.library.now n c.requires.netlist (omega (arith, classes, low)) in
    let count = c.instance_count.ensures in
    let nodes = ap length c.nodes.ensures.seen in
    let many = length-map c.nodes.result.now (instance_of n.models) in
    let same = c.if-instance_count-nodes.false in
    omega (arith, few, count, nodes, many, same)

pub returns-then-not-same_figure-clause-refused : goal.returns-then-not-same_figure-clause-refused
returns-then-not-same_figure-clause-refused c e =
    let count = c.row_count.result in
    let made = map (λ (v : Vec ℕ). v.items) c.in_ok-rows.rows.items in
    other_drawing c.args.library.now c.args.netlist.now c.args.figure.now c.placements_are_in_rows.ensures count c.row_count.ensures.value made
    (subst (λ (items : List Item). AreReadRows count (stands_from count 0 (instances_of items)) made) c.as_slice-items.ensures c.in_ok-rows.ensures.read)
    c.in_ok-placement.placement c.in_ok-placement.ensures.placed c.in_ok-placement.ensures.rows c.in_ok-drawn.drawn c.in_ok-drawn.ensures
    (λ same. let h = c.if-not-same_figure.ensures.1 same in absurd (cc h))
