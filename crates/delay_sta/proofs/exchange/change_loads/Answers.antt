use Rattle.std.proofs.Common.{◌≡◌, ◌<◌, length, sym, ap, ◌∙◌, rules}
use Rattle.std.proofs.lemmas.Option.{slice_get_within}
use Rattle.cell_model.specs.Cell.{Cell}
use Rattle.net_core.specs.declared.frame.Node.{Node}
use Rattle.delay_sta.proofs.Retiming.{node_low}
use Rattle.delay_sta.proofs.Swapping.{names_each, old_had, new_room, now_loads, at_index, cells_stand, names_at}
use Rattle.delay_sta.proofs.exchange.change_loads.Goals as goal

pub bounds-cells-old : goal.bounds-cells-old
bounds-cells-old c = slice_get_within c.cells-cells.result.now c.args.places.0 c.requires.exchange.was (cells_stand c.args.library.now c.cells-cells.result.now c.args.places.0 c.requires.exchange.was c.cells-cells.ensures.value (c.requires.was c.requires.exchange))

pub offset_bounds-cells-old : goal.offset_bounds-cells-old
offset_bounds-cells-old c =
    let low : c.args.places.0 < length c.cells-cells.result.now = slice_get_within c.cells-cells.result.now c.args.places.0 c.requires.exchange.was (cells_stand c.args.library.now c.cells-cells.result.now c.args.places.0 c.requires.exchange.was c.cells-cells.ensures.value (c.requires.was c.requires.exchange)) in
    search rules

pub bounds-cells-new : goal.bounds-cells-new
bounds-cells-new c = slice_get_within c.cells-cells.result.now c.args.places.1 c.requires.exchange.now (cells_stand c.args.library.now c.cells-cells.result.now c.args.places.1 c.requires.exchange.now c.cells-cells.ensures.value c.requires.exchange.there)

pub offset_bounds-cells-new : goal.offset_bounds-cells-new
offset_bounds-cells-new c =
    let low : c.args.places.1 < length c.cells-cells.result.now = slice_get_within c.cells-cells.result.now c.args.places.1 c.requires.exchange.now (cells_stand c.args.library.now c.cells-cells.result.now c.args.places.1 c.requires.exchange.now c.cells-cells.ensures.value c.requires.exchange.there) in
    search rules

pub take_loads-requires-clause-each : goal.take_loads-requires-clause-each
take_loads-requires-clause-each c =
    let names_are : c.as_slice-names.result.now ≡ c.requires.exchange.owner.pins =
    c.as_slice-names.ensures ∙ ap (λ (d : Node). d.pins) (sym c.index-nodes-number.is) ∙ names_at c.args.netlist.now c.nodes.result.now c.args.number c.index-nodes-number.result c.requires.exchange.owner c.nodes.ensures.seen
    (node_low c.args.netlist.now c.nodes.result.now c.args.number c.requires.exchange.owner c.nodes.ensures.seen c.requires.exchange.stands) c.index-nodes-number.is c.requires.exchange.stands in
    names_each c.args.netlist.now c.args.number c.requires.exchange.owner c.requires.exchange.stands c.pin_classes-classes.result.now c.pin_classes-classes.ensures.classes c.as_slice-names.result.now names_are

pub take_loads-requires-clause-had : goal.take_loads-requires-clause-had
take_loads-requires-clause-had c =
    let names_are : c.as_slice-names.result.now ≡ c.requires.exchange.owner.pins =
    c.as_slice-names.ensures ∙ ap (λ (d : Node). d.pins) (sym c.index-nodes-number.is) ∙ names_at c.args.netlist.now c.nodes.result.now c.args.number c.index-nodes-number.result c.requires.exchange.owner c.nodes.ensures.seen
    (node_low c.args.netlist.now c.nodes.result.now c.args.number c.requires.exchange.owner c.nodes.ensures.seen c.requires.exchange.stands) c.index-nodes-number.is c.requires.exchange.stands in
    let old_are : c.as_slice.result.now ≡ c.requires.exchange.was.pins =
    c.as_slice.ensures ∙ ap (λ (d : Cell). d.pins) (sym c.index-cells-old.is ∙ at_index c.cells-cells.result.now c.args.places.0 c.index-cells-old.result c.requires.exchange.was c.index-cells-old.is
    (cells_stand c.args.library.now c.cells-cells.result.now c.args.places.0 c.requires.exchange.was c.cells-cells.ensures.value (c.requires.was c.requires.exchange))) in
    old_had c.args.library.now c.args.netlist.now c.args.number c.args.places.1 c.requires.exchange c.requires.timed c.cells-cells.ensures.checked.arcs c.pin_classes-classes.result.now c.pin_classes-classes.ensures.classes c.args.loads.now c.requires.loads c.as_slice-names.result.now c.as_slice.result.now names_are old_are

pub give_loads-requires-clause-each : goal.give_loads-requires-clause-each
give_loads-requires-clause-each c =
    let names_are : c.as_slice-names.result.now ≡ c.requires.exchange.owner.pins =
    c.as_slice-names.ensures ∙ ap (λ (d : Node). d.pins) (sym c.index-nodes-number.is) ∙ names_at c.args.netlist.now c.nodes.result.now c.args.number c.index-nodes-number.result c.requires.exchange.owner c.nodes.ensures.seen
    (node_low c.args.netlist.now c.nodes.result.now c.args.number c.requires.exchange.owner c.nodes.ensures.seen c.requires.exchange.stands) c.index-nodes-number.is c.requires.exchange.stands in
    names_each c.args.netlist.now c.args.number c.requires.exchange.owner c.requires.exchange.stands c.pin_classes-classes.result.now c.pin_classes-classes.ensures.classes c.as_slice-names.result.now names_are

pub give_loads-requires-clause-room : goal.give_loads-requires-clause-room
give_loads-requires-clause-room c =
    let names_are : c.as_slice-names.result.now ≡ c.requires.exchange.owner.pins =
    c.as_slice-names.ensures ∙ ap (λ (d : Node). d.pins) (sym c.index-nodes-number.is) ∙ names_at c.args.netlist.now c.nodes.result.now c.args.number c.index-nodes-number.result c.requires.exchange.owner c.nodes.ensures.seen
    (node_low c.args.netlist.now c.nodes.result.now c.args.number c.requires.exchange.owner c.nodes.ensures.seen c.requires.exchange.stands) c.index-nodes-number.is c.requires.exchange.stands in
    let old_are : c.as_slice.result.now ≡ c.requires.exchange.was.pins =
    c.as_slice.ensures ∙ ap (λ (d : Cell). d.pins) (sym c.index-cells-old.is ∙ at_index c.cells-cells.result.now c.args.places.0 c.index-cells-old.result c.requires.exchange.was c.index-cells-old.is
    (cells_stand c.args.library.now c.cells-cells.result.now c.args.places.0 c.requires.exchange.was c.cells-cells.ensures.value (c.requires.was c.requires.exchange))) in
    new_room c.args.library.now c.args.netlist.now c.args.number c.args.places.1 c.requires.exchange c.requires.timed c.cells-cells.ensures.checked.arcs c.pin_classes-classes.result.now c.pin_classes-classes.ensures.classes c.args.loads.now c.requires.loads c.as_slice-names.result.now c.as_slice.result.now names_are old_are c.take_loads.new.loads c.take_loads.ensures.many c.take_loads.ensures.each c.pin_classes-classes.ensures.few

pub returns : goal.returns
returns c =
    let names_are : c.as_slice-names.result.now ≡ c.requires.exchange.owner.pins =
    c.as_slice-names.ensures ∙ ap (λ (d : Node). d.pins) (sym c.index-nodes-number.is) ∙ names_at c.args.netlist.now c.nodes.result.now c.args.number c.index-nodes-number.result c.requires.exchange.owner c.nodes.ensures.seen
    (node_low c.args.netlist.now c.nodes.result.now c.args.number c.requires.exchange.owner c.nodes.ensures.seen c.requires.exchange.stands) c.index-nodes-number.is c.requires.exchange.stands in
    let old_are : c.as_slice.result.now ≡ c.requires.exchange.was.pins =
    c.as_slice.ensures ∙ ap (λ (d : Cell). d.pins) (sym c.index-cells-old.is ∙ at_index c.cells-cells.result.now c.args.places.0 c.index-cells-old.result c.requires.exchange.was c.index-cells-old.is
    (cells_stand c.args.library.now c.cells-cells.result.now c.args.places.0 c.requires.exchange.was c.cells-cells.ensures.value (c.requires.was c.requires.exchange))) in
    let new_are : c.as_slice-2.result.now ≡ c.requires.exchange.now.pins =
    c.as_slice-2.ensures ∙ ap (λ (d : Cell). d.pins) (sym c.index-cells-new.is ∙ at_index c.cells-cells.result.now c.args.places.1 c.index-cells-new.result c.requires.exchange.now c.index-cells-new.is
    (cells_stand c.args.library.now c.cells-cells.result.now c.args.places.1 c.requires.exchange.now c.cells-cells.ensures.value c.requires.exchange.there)) in
    now_loads c.args.library.now c.args.netlist.now c.args.number c.args.places.1 c.requires.exchange c.requires.timed c.cells-cells.ensures.checked.arcs c.pin_classes-classes.result.now c.pin_classes-classes.ensures.classes c.args.loads.now c.requires.loads c.as_slice-names.result.now c.as_slice.result.now names_are old_are c.as_slice-2.result.now new_are c.take_loads.new.loads c.take_loads.ensures.many c.take_loads.ensures.each
    c.give_loads.new.loads c.give_loads.ensures.many c.give_loads.ensures.each c.give_loads.ensures.short
