use Rattle.std.proofs.Common.{subst, arith}
use Rattle.vlsi_base.specs.declared.name.Name.{Name}
use Rattle.vlsi_base.specs.declared.name.Port.{Port}
use Rattle.net_core.specs.Netlist.{port, IsClassOf}
use Rattle.lvx_compare.proofs.Finding.{adds_none, adds_mapped, adds_all}
use Rattle.lvx_compare.proofs.matching.push_port_classes.Goals as goal

pub loop-item-init : goal.loop-item-init
loop-item-init c = adds_none c.args.netlist.now c.args.found.now.items

pub loop-item-preserved : goal.loop-item-preserved
loop-item-preserved c =
    let is = subst (λ (x : Name). IsClassOf c.args.netlist.now (port x) c.class.result) c.in_ok-copy.ensures c.class.ensures in
    adds_mapped (λ (p : Port). port p.name) c.args.netlist.now c.args.ports.now c.loop-item.item-index c.item-item.result c.class.result c.args.found.now.items c.loop-item.found.items c.push.new.self.items
    c.loop-item-test.true c.item-item.is c.loop-item.invariant is c.in_ok-push.ensures.items

pub returns : goal.returns
returns c = adds_all (λ (p : Port). port p.name) c.args.netlist.now c.args.ports.now c.loop-item.item-index c.args.found.now.items c.loop-item.found.items (omega (arith, c.loop-item-test.false)) c.loop-item.invariant
