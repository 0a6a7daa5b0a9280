use Rattle.std.proofs.Common.{List, ℕ, map, subst, arith}
use Rattle.vlsi_base.specs.declared.name.Name.{Name}
use Rattle.net_core.specs.Netlist.{pin_of, IsClassOf}
use Rattle.lvx_compare.specs.Stages.{AddsClasses}
use Rattle.lvx_compare.proofs.Finding.{adds_none, adds_mapped, adds_all}
use Rattle.lvx_compare.proofs.matching.push_pin_classes.Goals as goal

pub loop-pin-init : goal.loop-pin-init
loop-pin-init c = adds_none c.args.netlist.now c.args.found.now.items

pub loop-pin-preserved : goal.loop-pin-preserved
loop-pin-preserved c =
    let owned = subst (λ (x : List ℕ). IsClassOf c.args.netlist.now (pin_of x c.in_ok-copy-2.field-0) c.class.result) c.in_ok-copy.ensures c.class.ensures in
    let is = subst (λ (x : Name). IsClassOf c.args.netlist.now (pin_of c.args.node.now.name x) c.class.result) c.in_ok-copy-2.ensures owned in
    adds_mapped (pin_of c.args.node.now.name) c.args.netlist.now c.as_slice-pins.result.now c.loop-pin.pin-index c.pin-item.result c.class.result c.args.found.now.items c.loop-pin.found.items c.push.new.self.items
    c.loop-pin-test.true c.pin-item.is c.loop-pin.invariant is c.in_ok-push.ensures.items

pub returns : goal.returns
returns c =
    subst (λ (ns : List Name). AddsClasses c.args.netlist.now (map (pin_of c.args.node.now.name) ns) c.args.found.now.items c.loop-pin.found.items) c.as_slice-pins.ensures
    (adds_all (pin_of c.args.node.now.name) c.args.netlist.now c.as_slice-pins.result.now c.loop-pin.pin-index c.args.found.now.items c.loop-pin.found.items (omega (arith, c.loop-pin-test.false)) c.loop-pin.invariant)
