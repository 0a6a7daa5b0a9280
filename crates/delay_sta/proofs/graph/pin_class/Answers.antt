use Rattle.std.proofs.Common.{arith}
use Rattle.delay_sta.proofs.Placing.{AreNodesOf, read_low, read_class}
use Rattle.delay_sta.proofs.graph.pin_class.Goals as goal

pub overflow_add-result : goal.overflow_add-result
overflow_add-result c =
    let are : AreNodesOf c.args.netlist.now c.nodes.result.now = record { seen = c.nodes.ensures.seen; numbered = c.nodes.ensures.numbered } in
    let l = read_low c.args.netlist.now c.nodes.result.now c.classes.result.now c.args.owner c.args.place c.index-nodes-owner.result c.classes.ensures.sound are c.classes.ensures.classes c.requires c.index-nodes-owner.is in
    let few = c.classes.ensures.few in
    omega (arith, l, few)

pub offset_bounds-classes-node : goal.offset_bounds-classes-node
offset_bounds-classes-node c =
    let are : AreNodesOf c.args.netlist.now c.nodes.result.now = record { seen = c.nodes.ensures.seen; numbered = c.nodes.ensures.numbered } in
    let l = read_low c.args.netlist.now c.nodes.result.now c.classes.result.now c.args.owner c.args.place c.index-nodes-owner.result c.classes.ensures.sound are c.classes.ensures.classes c.requires c.index-nodes-owner.is in
    let few = c.classes.ensures.few in
    omega (arith, l, few)

pub bounds-classes-node : goal.bounds-classes-node
bounds-classes-node c =
    let are : AreNodesOf c.args.netlist.now c.nodes.result.now = record { seen = c.nodes.ensures.seen; numbered = c.nodes.ensures.numbered } in
    let l = read_low c.args.netlist.now c.nodes.result.now c.classes.result.now c.args.owner c.args.place c.index-nodes-owner.result c.classes.ensures.sound are c.classes.ensures.classes c.requires c.index-nodes-owner.is in
    omega (arith, l)

pub returns : goal.returns
returns c = λ i pin s t.
    let are : AreNodesOf c.args.netlist.now c.nodes.result.now = record { seen = c.nodes.ensures.seen; numbered = c.nodes.ensures.numbered } in
    read_class c.args.netlist.now c.nodes.result.now c.classes.result.now c.args.owner c.args.place c.index-nodes-owner.result c.classes.ensures.sound are c.classes.ensures.classes c.index-nodes-owner.is i pin s t
