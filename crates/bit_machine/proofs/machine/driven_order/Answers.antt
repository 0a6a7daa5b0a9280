use Rattle.std.proofs.Common.{List, length, map, ap, subst, refl, arith}
use Rattle.std.proofs.lemmas.List.{length-map}
use Rattle.bool_expr.specs.View.{view}
use Rattle.machine_core.proofs.Values.{In-right}
use Rattle.source_bits.specs.declared.driven.DrivenBit.{DrivenBit}
use Rattle.source_bits.specs.Driven.{driven_view}
use Rattle.bit_order.specs.declared.outcome.Order.TheVariants.{Sorted, Ring}
use Rattle.vlsi_model.specs.Nodes.{IsOrderOfBits}
use Rattle.vlsi_model.proofs.Members.{different_right}
use Rattle.vlsi_model.proofs.Counted.{few_below}
use Rattle.bit_machine.specs.System.{system_of, held_bits, driven_bits}
use Rattle.bit_machine.proofs.Laying.{laid, no_ring, bits_count}
use Rattle.bit_machine.proofs.Reaching.{driven_inside, driven_over, driven_once}
use Rattle.bit_machine.proofs.machine.driven_order.Goals as goal

pub node_order-requires-clause-inside : goal.node_order-requires-clause-inside
node_order-requires-clause-inside c = driven_inside c.args.system.now c.requires.system c.deref.result.now (length c.as_slice-total.result.now) c.deref.ensures.value (ap length c.as_slice-total.ensures)

pub node_order-requires-clause-different : goal.node_order-requires-clause-different
node_order-requires-clause-different c = driven_once c.args.system.now c.requires.system c.deref.result.now c.deref.ensures.value

pub node_order-requires-clause-few : goal.node_order-requires-clause-few
node_order-requires-clause-few c =
    let s = system_of c.args.system.now in
    let fit = few_below (length s.names) (driven_bits s) (different_right (held_bits s) (driven_bits s) c.requires.system.once) (λ b i. c.requires.system.inside b (In-right b (held_bits s) (driven_bits s) i)) in
    let count = bits_count s in
    let seen = length-map c.args.system.now.driven.items driven_view in
    let same = ap (λ (ds : List DrivenBit). length ds) c.deref.ensures.value in
    let names = ap length c.as_slice-total.ensures in
    omega (arith, fit, count, seen, same, names, c.requires.few)

pub node_order-requires-clause-over : goal.node_order-requires-clause-over
node_order-requires-clause-over c = driven_over c.args.system.now c.requires.system c.deref.result.now (length c.as_slice-total.result.now) c.deref.ensures.value (ap length c.as_slice-total.ensures)

pub unreachable-requires : goal.unreachable-requires
unreachable-requires c =
    let total = length c.as_slice-total.result.now in
    let seen = subst (IsOrderOfBits (map (λ (d : DrivenBit). d.bit) c.deref.result.now) (map (λ (d : DrivenBit). view d.expr) c.deref.result.now) total) c.in-Ring.is c.in_ok-order.ensures in
    no_ring (system_of c.args.system.now) c.args.system.now.driven.items total c.in-Ring.field-0 c.requires.system c.requires.falls refl (ap length c.as_slice-total.ensures)
    (subst (λ (ds : List DrivenBit). IsOrderOfBits (map (λ (d : DrivenBit). d.bit) ds) (map (λ (d : DrivenBit). view d.expr) ds) total (Ring c.in-Ring.field-0)) c.deref.ensures.value seen)

pub returns : goal.returns
returns c =
    let total = length c.as_slice-total.result.now in
    let seen = subst (IsOrderOfBits (map (λ (d : DrivenBit). d.bit) c.deref.result.now) (map (λ (d : DrivenBit). view d.expr) c.deref.result.now) total) c.in-Sorted.is c.in_ok-order.ensures in
    laid (system_of c.args.system.now) c.args.system.now.driven.items total c.in-Sorted.order refl (ap length c.as_slice-total.ensures)
    (subst (λ (ds : List DrivenBit). IsOrderOfBits (map (λ (d : DrivenBit). d.bit) ds) (map (λ (d : DrivenBit). view d.expr) ds) total (Sorted c.in-Sorted.order)) c.deref.ensures.value seen)
