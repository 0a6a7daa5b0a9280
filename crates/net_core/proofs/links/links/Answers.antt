use Rattle.std.proofs.Common.{◌≡◌, ◌∙◌, List, ℕ, length, take, ap, arith}
use Rattle.std.proofs.Math.Seq.{take-length}
use Rattle.net_core.specs.declared.frame.Node.{Node}
use Rattle.net_core.specs.declared.pins.ModelPins.{ModelPins}
use Rattle.net_core.specs.Checks.{pins_named}
use Rattle.net_core.specs.Links.{pieces_from}
use Rattle.net_core.proofs.Linking.{node_links, seen_of, is_next, own_length, depends_inside, node_step, are_links}
use Rattle.net_core.proofs.links.links.Goals as goal

pub classes_from-own-requires : goal.classes_from-own-requires
classes_from-own-requires c =
    let n = c.args.netlist.now in
    let table = c.args.table.now in
    let known = c.models-models.result.now in
    let nodes = c.nodes-nodes.result.now in
    let is = seen_of table n known nodes c.models-models.ensures c.classes-classes.ensures.sound c.requires c.nodes-nodes.ensures.seen c.nodes-nodes.ensures.numbered in
    let found = c.pins_of-pins.ensures ∙ ap (λ (t : List ModelPins). pins_named t c.index-models-node.result) c.as_slice-in-loop-owner.ensures in
    let next = is_next table n known c.classes-classes.result.now nodes c.loop-owner.owner c.index-nodes-owner.result c.index-models-node.result c.pins_of-pins.result.now is c.classes-classes.ensures.classes c.models-models.ensures c.nodes-nodes.ensures.known c.loop-owner-test.true
    c.index-nodes-owner.is c.index-models-node.is found in
    next.inside

pub push_instance_links-requires-clause-each : goal.push_instance_links-requires-clause-each
push_instance_links-requires-clause-each c =
    let n = c.args.netlist.now in
    let table = c.args.table.now in
    let known = c.models-models.result.now in
    let nodes = c.nodes-nodes.result.now in
    let is = seen_of table n known nodes c.models-models.ensures c.classes-classes.ensures.sound c.requires c.nodes-nodes.ensures.seen c.nodes-nodes.ensures.numbered in
    let found = c.pins_of-pins.ensures ∙ ap (λ (t : List ModelPins). pins_named t c.index-models-node.result) c.as_slice-in-loop-owner.ensures in
    let next = is_next table n known c.classes-classes.result.now nodes c.loop-owner.owner c.index-nodes-owner.result c.index-models-node.result c.pins_of-pins.result.now is c.classes-classes.ensures.classes c.models-models.ensures c.nodes-nodes.ensures.known c.loop-owner-test.true
    c.index-nodes-owner.is c.index-models-node.is found in
    ap length c.classes_from-own.ensures ∙ own_length c.classes-classes.result.now c.index-nodes-owner.result.first (length c.pins_of-pins.result.now) next.inside

pub push_instance_links-requires-clause-depends : goal.push_instance_links-requires-clause-depends
push_instance_links-requires-clause-depends c =
    let n = c.args.netlist.now in
    let table = c.args.table.now in
    let known = c.models-models.result.now in
    let nodes = c.nodes-nodes.result.now in
    let is = seen_of table n known nodes c.models-models.ensures c.classes-classes.ensures.sound c.requires c.nodes-nodes.ensures.seen c.nodes-nodes.ensures.numbered in
    let found = c.pins_of-pins.ensures ∙ ap (λ (t : List ModelPins). pins_named t c.index-models-node.result) c.as_slice-in-loop-owner.ensures in
    let next = is_next table n known c.classes-classes.result.now nodes c.loop-owner.owner c.index-nodes-owner.result c.index-models-node.result c.pins_of-pins.result.now is c.classes-classes.ensures.classes c.models-models.ensures c.nodes-nodes.ensures.known c.loop-owner-test.true
    c.index-nodes-owner.is c.index-models-node.is found in
    depends_inside table c.index-models-node.result c.requires.table_is.depends c.pins_of-pins.result.now (length c.classes_from-own.result.now) found
    (ap length c.classes_from-own.ensures ∙ own_length c.classes-classes.result.now c.index-nodes-owner.result.first (length c.pins_of-pins.result.now) next.inside)

pub loop-owner-preserved : goal.loop-owner-preserved
loop-owner-preserved c =
    let n = c.args.netlist.now in
    let table = c.args.table.now in
    let known = c.models-models.result.now in
    let nodes = c.nodes-nodes.result.now in
    let is = seen_of table n known nodes c.models-models.ensures c.classes-classes.ensures.sound c.requires c.nodes-nodes.ensures.seen c.nodes-nodes.ensures.numbered in
    let found = c.pins_of-pins.ensures ∙ ap (λ (t : List ModelPins). pins_named t c.index-models-node.result) c.as_slice-in-loop-owner.ensures in
    let next = is_next table n known c.classes-classes.result.now nodes c.loop-owner.owner c.index-nodes-owner.result c.index-models-node.result c.pins_of-pins.result.now is c.classes-classes.ensures.classes c.models-models.ensures c.nodes-nodes.ensures.known c.loop-owner-test.true
    c.index-nodes-owner.is c.index-models-node.is found in
    node_step table known c.classes-classes.result.now nodes c.loop-owner.owner c.index-nodes-owner.result c.classes_from-own.result.now c.pins_of-pins.result.now c.loop-owner.links.items c.push_instance_links.new.links.items c.loop-owner-test.true c.index-nodes-owner.is
    next.pins_are c.classes_from-own.ensures c.in_ok-push_instance_links.ensures c.loop-owner.invariant

pub returns-clause-all : goal.returns-clause-all
returns-clause-all c =
    let n = c.args.netlist.now in
    let table = c.args.table.now in
    let known = c.models-models.result.now in
    let nodes = c.nodes-nodes.result.now in
    let is = seen_of table n known nodes c.models-models.ensures c.classes-classes.ensures.sound c.requires c.nodes-nodes.ensures.seen c.nodes-nodes.ensures.numbered in
    let ended : c.loop-owner.owner ≡ length nodes = omega (arith, c.loop-owner-test.false, c.loop-owner.auto.owner-end) in
    let all : take c.loop-owner.owner nodes ≡ nodes = ap (λ k. take k nodes) ended ∙ take-length nodes in
    are_links table n known nodes is c.loop-owner.links.items
    (c.loop-owner.invariant ∙ ap (λ (ns : List Node). pieces_from (node_links table known c.classes-classes.result.now) 0 ns) all ∙ ap (λ (cs : List ℕ). pieces_from (node_links table known cs) 0 nodes) c.classes-classes.ensures.classes)
