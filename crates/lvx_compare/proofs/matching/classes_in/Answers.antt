use Rattle.std.proofs.Common.{arith}
use Rattle.net_core.proofs.Frames.{port_terminals}
use Rattle.lvx_compare.proofs.Finding.{ports_found, node_more, all_found}
use Rattle.lvx_compare.proofs.matching.classes_in.Goals as goal

pub loop-node-init : goal.loop-node-init
loop-node-init c =
    ports_found c.args.other.now c.ports.result.now c.args.netlist.now.ports c.in_ok-found.found.items c.push_port_classes.new.found.items c.in_ok-found.ensures.items c.ports.ensures c.in_ok-push_port_classes.ensures

pub loop-node-preserved : goal.loop-node-preserved
loop-node-preserved c =
    node_more c.args.other.now (port_terminals c.args.netlist.now.ports) c.nodes-node-items.result.now c.loop-node.node-index c.node-item.result c.loop-node.found.items c.push_pin_classes.new.found.items
    c.loop-node-test.true c.node-item.is c.loop-node.invariant c.in_ok-push_pin_classes.ensures

pub returns : goal.returns
returns c =
    all_found c.args.other.now c.args.netlist.now c.nodes-node-items.result.now c.loop-node.node-index c.loop-node.found.items c.nodes-node-items.ensures.seen
    (omega (arith, c.loop-node-test.false)) c.loop-node.invariant
