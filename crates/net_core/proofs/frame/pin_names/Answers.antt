use Rattle.std.proofs.Common.{◌∙◌, List, length, ap, subst, refl}
use Rattle.std.proofs.lemmas.Option.{slice_get_read}
use Rattle.vlsi_base.specs.declared.name.Name.{Name}
use Rattle.vlsi_base.specs.Names.{scalar}
use Rattle.net_core.specs.Places.{Stands}
use Rattle.net_core.proofs.Namings.{pin_named, two_names}
use Rattle.net_core.proofs.frame.pin_names.Goals as goal

pub returns-in-Some : goal.returns-in-Some
returns-in-Some c = λ _.
    let s : Stands c.args.nodes.now c.loop-node.node-index c.node-item.result = slice_get_read c.args.nodes.now (length c.args.nodes.now) c.loop-node.node-index c.node-item.result refl c.loop-node-test.true c.node-item.is in
    let p : Stands c.node-item.result.pins c.loop-node.rest c.in-Some.pin.now =
    subst (λ (xs : List Name). Stands xs c.loop-node.rest c.in-Some.pin.now) c.as_slice.ensures
    (slice_get_read c.as_slice.result.now (length c.as_slice.result.now) c.loop-node.rest c.in-Some.pin.now refl c.in-Some.ensures.lookup.3.0 c.in-Some.ensures.lookup.1) in
    pin_named c.args.nodes.now c.loop-node.node-index c.loop-node.rest c.args.place c.node-item.result c.in-Some.pin.now c.push-in-Some.new.self s p c.loop-node.invariant.passed
    (two_names c.loop-node.names c.push.new.self c.push-in-Some.new.self c.scalar.result c.in_ok-copy-in-Some-2.field-0 (scalar c.node-item.result.name) c.in-Some.pin.now
    c.in_ok-push-in-Some-2.ensures.ok c.in_ok-push-in-Some.ensures.ok c.loop-node.invariant.none (c.scalar.ensures ∙ ap scalar c.in_ok-copy-in-Some.ensures) c.in_ok-copy-in-Some-2.ensures)
