use Rattle.std.proofs.Common.{ℕ, List, length, take, drop, ap, ◌∙◌, arith}
use Rattle.delay_sta.proofs.PinClasses.{node_pins_at, classes_at, inside_of, number_low}
use Rattle.delay_sta.proofs.exchange.pin_classes.Goals as goal

pub classes_from-requires : goal.classes_from-requires
classes_from-requires c =
    let h = node_pins_at c.args.netlist.now c.nodes.result.now c.args.number c.index-nodes-number.result c.classes-classes.ensures.sound c.nodes.ensures.seen c.nodes.ensures.numbered
    (number_low c.args.netlist.now c.nodes.result.now c.args.number c.nodes.ensures.seen c.requires) c.index-nodes-number.is in
    let l = h.last in
    let p = ap length c.as_slice.ensures in
    let s = ap length c.classes-classes.ensures.classes in
    omega (arith, l, p, s)

pub returns-clause-classes : goal.returns-clause-classes
returns-clause-classes c =
    let node = c.index-nodes-number.result in
    let h = node_pins_at c.args.netlist.now c.nodes.result.now c.args.number c.index-nodes-number.result c.classes-classes.ensures.sound c.nodes.ensures.seen c.nodes.ensures.numbered
    (number_low c.args.netlist.now c.nodes.result.now c.args.number c.nodes.ensures.seen c.requires) c.index-nodes-number.is in
    classes_at c.args.netlist.now c.args.number c.index-nodes-number.result c.classes_from.result.now h
    (c.classes_from.ensures ∙ ap (λ k. take k (drop c.index-nodes-number.result.first c.classes-classes.result.now)) (ap length c.as_slice.ensures)
    ∙ ap (λ (cs : List ℕ). take (length c.index-nodes-number.result.pins) (drop c.index-nodes-number.result.first cs)) c.classes-classes.ensures.classes)

pub returns-clause-inside : goal.returns-clause-inside
returns-clause-inside c =
    let h = node_pins_at c.args.netlist.now c.nodes.result.now c.args.number c.index-nodes-number.result c.classes-classes.ensures.sound c.nodes.ensures.seen c.nodes.ensures.numbered
    (number_low c.args.netlist.now c.nodes.result.now c.args.number c.nodes.ensures.seen c.requires) c.index-nodes-number.is in
    inside_of c.args.netlist.now c.classes-classes.ensures.sound c.args.number c.classes_from.result.now
    (classes_at c.args.netlist.now c.args.number c.index-nodes-number.result c.classes_from.result.now h
    (c.classes_from.ensures ∙ ap (λ k. take k (drop c.index-nodes-number.result.first c.classes-classes.result.now)) (ap length c.as_slice.ensures)
    ∙ ap (λ (cs : List ℕ). take (length c.index-nodes-number.result.pins) (drop c.index-nodes-number.result.first cs)) c.classes-classes.ensures.classes))
