use Rattle.std.proofs.Common.{Bool, Option, Some, List, refl, subst, arith}
use Rattle.std.specs.Prelude.{slice_index}
use Rattle.vlsi_base.specs.declared.name.Dir.TheVariants as dir
use Rattle.cell_model.specs.declared.cell.Pin.{Pin}
use Rattle.cell_model.specs.Cell.{Function}
use Rattle.cell_checks.specs.Arcs.{HasPin}
use Rattle.net_core.specs.Frame.{instance_of}
use Rattle.net_core.specs.Netlist.{pin_of}
use Rattle.net_core.proofs.Rings.{class_below}
use Rattle.delay_sta.specs.Graph.{IsWay}
use Rattle.delay_sta.proofs.Exact.{exactly}
use Rattle.delay_sta.proofs.Placing.{AreNodesOf, instance_read, placed}
use Rattle.delay_sta.proofs.graph.timed_arc.Goals as goal

pub pin_class-to-requires : goal.pin_class-to-requires
pin_class-to-requires c =
    let n = c.args.netlist.now in
    let node = c.index-nodes-owner.result in
    let are : AreNodesOf n c.nodes.result.now = record { seen = c.nodes.ensures.seen; numbered = c.nodes.ensures.numbered } in (
      instance_of n.models node,
      c.args.arc.now.to,
      instance_read n c.nodes.result.now c.args.owner node are c.requires.there c.index-nodes-owner.is,
      placed node.pins c.as_slice-2.result.now c.args.arc.now.to c.pin_place-2.result c.in_ok-output.output c.as_slice-2.ensures c.pin_place-2.ensures c.in_ok-output.was,
    )

pub pin_class-requires : goal.pin_class-requires
pin_class-requires c =
    let n = c.args.netlist.now in
    let node = c.index-nodes-owner.result in
    let are : AreNodesOf n c.nodes.result.now = record { seen = c.nodes.ensures.seen; numbered = c.nodes.ensures.numbered } in (
      instance_of n.models node,
      c.args.arc.now.from,
      instance_read n c.nodes.result.now c.args.owner node are c.requires.there c.index-nodes-owner.is,
      placed node.pins c.as_slice.result.now c.args.arc.now.from c.pin_place.result c.in_ok-input.input c.as_slice.ensures c.pin_place.ensures c.in_ok-input.was,
    )

pub bounds-loads-to : goal.bounds-loads-to
bounds-loads-to c =
    let n = c.args.netlist.now in
    let node = c.index-nodes-owner.result in
    let are : AreNodesOf n c.nodes.result.now = record { seen = c.nodes.ensures.seen; numbered = c.nodes.ensures.numbered } in
    let joined = c.pin_class-to.ensures (instance_of n.models node) c.args.arc.now.to
    (instance_read n c.nodes.result.now c.args.owner node are c.requires.there c.index-nodes-owner.is)
    (placed node.pins c.as_slice-2.result.now c.args.arc.now.to c.pin_place-2.result c.in_ok-output.output c.as_slice-2.ensures c.pin_place-2.ensures c.in_ok-output.was) in
    let l = class_below n c.requires.sound (pin_of node.name c.args.arc.now.to) c.pin_class-to.result joined in
    let e = c.requires.each in
    omega (arith, l, e)

pub returns-clause-found : goal.returns-clause-found
returns-clause-found c =
    let n = c.args.netlist.now in
    let cell = c.args.cell.now in
    let arc = c.args.arc.now in
    let node = c.index-nodes-owner.result in
    let are : AreNodesOf n c.nodes.result.now = record { seen = c.nodes.ensures.seen; numbered = c.nodes.ensures.numbered } in
    let at = instance_read n c.nodes.result.now c.args.owner node are c.requires.there c.index-nodes-owner.is in
    let in_at = placed node.pins c.as_slice.result.now arc.from c.pin_place.result c.in_ok-input.input c.as_slice.ensures c.pin_place.ensures c.in_ok-input.was in
    let out_at = placed node.pins c.as_slice-2.result.now arc.to c.pin_place-2.result c.in_ok-output.output c.as_slice-2.ensures c.pin_place-2.ensures c.in_ok-output.was in
    let way : IsWay cell.function arc.from (Some c.in_ok-begins.begins) =
    subst (λ (o : Option Bool). IsWay cell.function arc.from o) c.in_ok-begins.was (subst (λ (f : Function). IsWay f arc.from c.way.result) c.as_enum.ensures c.way.ensures) in
    let takes : HasPin cell.pins dir.In arc.from = subst (λ (ps : List Pin). HasPin ps dir.In arc.from) c.as_slice-pins.ensures (c.if-not-has_pin.ensures.0 refl) in
    let gives : HasPin cell.pins dir.Out arc.to = subst (λ (ps : List Pin). HasPin ps dir.Out arc.to) c.as_slice-pins.ensures (c.if-not-has_pin-2.ensures.0 refl) in
    exactly n c.requires.sound (slice_index c.args.loads.now) c.args.owner (instance_of n.models node) cell arc c.in_ok-begins.begins c.pin_class.result c.pin_class-to.result c.arc_delay.result
    c.in_ok-input.input c.in_ok-output.output at in_at out_at way takes gives
    (c.pin_class.ensures (instance_of n.models node) arc.from at in_at) (c.pin_class-to.ensures (instance_of n.models node) arc.to at out_at) c.arc_delay.ensures.value
