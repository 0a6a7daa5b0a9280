use Rattle.std.proofs.Common.{◌<◌, List, [], length, sym, subst}
use Rattle.scan_checks.specs.declared.registers.Register.{Register}
use Rattle.net_core.specs.declared.frame.Node.{Node}
use Rattle.scan_checks.specs.Registers.{AreRegisters, none}
use Rattle.scan_checks.proofs.Found.{node_is, register_next, all_registers}
use Rattle.scan_checks.proofs.Ordered.{few_registers}
use Rattle.scan_checks.proofs.registers.registers.Goals as goal

pub push_register-requires-clause-node : goal.push_register-requires-clause-node
push_register-requires-clause-node c =
    node_is c.args.netlist.now c.nodes-nodes.result.now c.nodes-nodes.ensures.seen c.nodes-nodes.ensures.numbered c.loop-node.node-index c.node-item.result c.loop-node-test.true c.node-item.is

pub push_register-requires-clause-known : goal.push_register-requires-clause-known
push_register-requires-clause-known c =
    subst (λ (x : Node). x.model < length c.args.netlist.now.models) (sym c.node-item.is) (c.nodes-nodes.ensures.known c.loop-node.node-index c.node-item.result c.loop-node-test.true)

pub loop-node-preserved : goal.loop-node-preserved
loop-node-preserved c =
    register_next c.args.library.now c.args.netlist.now c.nodes-nodes.result.now c.loop-node.node-index c.node-item.result c.loop-node.registers.items c.push_register.new.registers.items
    c.loop-node-test.true c.node-item.is c.loop-node.invariant c.in_ok-push_register.ensures

pub loop-node-init : goal.loop-node-init
loop-node-init c = subst (λ (rs : List Register). AreRegisters c.args.netlist.now c.args.library.now [] rs) (sym c.new-registers.ensures.items) none

pub returns-clause-registers : goal.returns-clause-registers
returns-clause-registers c =
    all_registers c.args.library.now c.args.netlist.now c.nodes-nodes.result.now c.loop-node.node-index c.loop-node.registers.items c.nodes-nodes.ensures.seen c.loop-node-test.false c.loop-node.invariant

pub returns-clause-few : goal.returns-clause-few
returns-clause-few c = few_registers c.args.netlist.now c.args.library.now c.loop-node.registers.items (returns-clause-registers c) c.requires.room
