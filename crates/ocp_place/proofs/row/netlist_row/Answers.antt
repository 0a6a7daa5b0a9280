use Rattle.std.proofs.Common.{◌≡◌, ◌+◌, Some, length, take, drop, slice_get, refl, sym, subst, ap, ◌∙◌, arith}
use Rattle.std.proofs.lemmas.List.{length-map}
use Rattle.std.proofs.lemmas.Option.{slice_get_read}
use Rattle.sym_geom.specs.declared.grid.TheConstants.{FIRST_CELL_X}
use Rattle.net_core.specs.Frame.{instance_of}
use Rattle.net_right.specs.View.{member_of}
use Rattle.net_right.proofs.Terminals.{seen_instances}
use Rattle.ocp_place.specs.Reaches.{AreReaches}
use Rattle.ocp_place.proofs.Laid.{node_reach, node_fits, few_nodes, inside, short, next}
use Rattle.ocp_place.proofs.Bounds.{whole_row}
use Rattle.ocp_place.proofs.Seen.{orderly}
use Rattle.ocp_place.proofs.row.netlist_row.Goals as goal

pub classes_from-own-requires : goal.classes_from-own-requires
classes_from-own-requires c =
    let l = c.args.library.now in
    let n = c.args.netlist.now in
    let nodes = c.nodes-node-items.result.now in
    let node = c.node-item.result in
    let i = c.loop-node.node-index in
    let are : AreReaches l n.models c.in_ok-reaches.reaches.items = subst (λ ms. AreReaches l ms c.in_ok-reaches.reaches.items) c.models.ensures c.in_ok-reaches.ensures in
    let s : slice_get nodes i ≡ Some node = slice_get_read nodes (length nodes) i node refl c.loop-node-test.true c.node-item.is in
    let fits = node_fits l n c.requires.library c.requires.netlist nodes c.nodes-node-items.ensures.seen c.nodes-node-items.ensures.known c.nodes-node-items.ensures.numbered
    c.in_ok-reaches.reaches.items are i node s in
    let pins = ap length c.as_slice.ensures in
    let classes = ap length c.classes-classes.ensures.classes in
    omega (arith, fits, pins, classes)

pub add-requires-clause-inside : goal.add-requires-clause-inside
add-requires-clause-inside c =
    let l = c.args.library.now in
    let n = c.args.netlist.now in
    let nodes = c.nodes-node-items.result.now in
    let node = c.node-item.result in
    let i = c.loop-node.node-index in
    let are : AreReaches l n.models c.in_ok-reaches.reaches.items = subst (λ ms. AreReaches l ms c.in_ok-reaches.reaches.items) c.models.ensures c.in_ok-reaches.ensures in
    let s : slice_get nodes i ≡ Some node = slice_get_read nodes (length nodes) i node refl c.loop-node-test.true c.node-item.is in
    let r = c.index.result.now in
    let has = node_reach l n c.requires.library c.requires.netlist nodes c.nodes-node-items.ensures.seen c.nodes-node-items.ensures.known c.nodes-node-items.ensures.numbered
    c.in_ok-reaches.reaches.items are i node r s c.index.ensures in
    let own = c.classes_from-own.result.now in
    let own_is : own ≡ take (length node.pins) (drop node.first n.classes) =
    c.classes_from-own.ensures ∙ ap (λ names. take (length names) (drop node.first c.classes-classes.result.now)) c.as_slice.ensures
    ∙ ap (λ cs. take (length node.pins) (drop node.first cs)) c.classes-classes.ensures.classes in
    inside l n c.requires.library c.requires.netlist nodes c.nodes-node-items.ensures.seen c.nodes-node-items.ensures.known c.nodes-node-items.ensures.numbered
    c.in_ok-reaches.reaches.items are i node r s has own own_is

pub add-requires-clause-short : goal.add-requires-clause-short
add-requires-clause-short c =
    let l = c.args.library.now in
    let n = c.args.netlist.now in
    let nodes = c.nodes-node-items.result.now in
    let node = c.node-item.result in
    let i = c.loop-node.node-index in
    let are : AreReaches l n.models c.in_ok-reaches.reaches.items = subst (λ ms. AreReaches l ms c.in_ok-reaches.reaches.items) c.models.ensures c.in_ok-reaches.ensures in
    let s : slice_get nodes i ≡ Some node = slice_get_read nodes (length nodes) i node refl c.loop-node-test.true c.node-item.is in
    let r = c.index.result.now in
    let has = node_reach l n c.requires.library c.requires.netlist nodes c.nodes-node-items.ensures.seen c.nodes-node-items.ensures.known c.nodes-node-items.ensures.numbered
    c.in_ok-reaches.reaches.items are i node r s c.index.ensures in
    let own = c.classes_from-own.result.now in
    let own_is : own ≡ take (length node.pins) (drop node.first n.classes) =
    c.classes_from-own.ensures ∙ ap (λ names. take (length names) (drop node.first c.classes-classes.result.now)) c.as_slice.ensures
    ∙ ap (λ cs. take (length node.pins) (drop node.first cs)) c.classes-classes.ensures.classes in
    let classes = ap length c.classes-classes.ensures.classes in
    let few_classes = c.classes-classes.ensures.few in
    let few = few_nodes l n c.requires.library c.requires.netlist nodes c.nodes-node-items.ensures.seen c.nodes-node-items.ensures.known c.nodes-node-items.ensures.numbered
    c.in_ok-reaches.reaches.items are (omega (arith, classes, few_classes)) in
    let narrow = c.loop-node.invariant.narrow in
    let low = c.loop-node-test.true in
    short l n c.requires.library c.requires.netlist nodes c.nodes-node-items.ensures.seen c.nodes-node-items.ensures.known c.nodes-node-items.ensures.numbered
    c.in_ok-reaches.reaches.items are i node r s has own own_is (FIRST_CELL_X + c.loop-node.row.width) (omega (arith, few, narrow, low))

pub add-requires-clause-narrow : goal.add-requires-clause-narrow
add-requires-clause-narrow c =
    let l = c.args.library.now in
    let n = c.args.netlist.now in
    let nodes = c.nodes-node-items.result.now in
    let node = c.node-item.result in
    let i = c.loop-node.node-index in
    let are : AreReaches l n.models c.in_ok-reaches.reaches.items = subst (λ ms. AreReaches l ms c.in_ok-reaches.reaches.items) c.models.ensures c.in_ok-reaches.ensures in
    let s : slice_get nodes i ≡ Some node = slice_get_read nodes (length nodes) i node refl c.loop-node-test.true c.node-item.is in
    let r = c.index.result.now in
    let has = node_reach l n c.requires.library c.requires.netlist nodes c.nodes-node-items.ensures.seen c.nodes-node-items.ensures.known c.nodes-node-items.ensures.numbered
    c.in_ok-reaches.reaches.items are i node r s c.index.ensures in
    let classes = ap length c.classes-classes.ensures.classes in
    let few_classes = c.classes-classes.ensures.few in
    let few = few_nodes l n c.requires.library c.requires.netlist nodes c.nodes-node-items.ensures.seen c.nodes-node-items.ensures.known c.nodes-node-items.ensures.numbered
    c.in_ok-reaches.reaches.items are (omega (arith, classes, few_classes)) in
    let narrow = c.loop-node.invariant.narrow in
    let low = c.loop-node-test.true in
    let own = has.reach.narrow in
    omega (arith, few, narrow, low, own)

pub loop-node-preserved : goal.loop-node-preserved
loop-node-preserved c =
    let l = c.args.library.now in
    let n = c.args.netlist.now in
    let nodes = c.nodes-node-items.result.now in
    let node = c.node-item.result in
    let i = c.loop-node.node-index in
    let are : AreReaches l n.models c.in_ok-reaches.reaches.items = subst (λ ms. AreReaches l ms c.in_ok-reaches.reaches.items) c.models.ensures c.in_ok-reaches.ensures in
    let s : slice_get nodes i ≡ Some node = slice_get_read nodes (length nodes) i node refl c.loop-node-test.true c.node-item.is in
    let r = c.index.result.now in
    let has = node_reach l n c.requires.library c.requires.netlist nodes c.nodes-node-items.ensures.seen c.nodes-node-items.ensures.known c.nodes-node-items.ensures.numbered
    c.in_ok-reaches.reaches.items are i node r s c.index.ensures in
    let own = c.classes_from-own.result.now in
    let own_is : own ≡ take (length node.pins) (drop node.first n.classes) =
    c.classes_from-own.ensures ∙ ap (λ names. take (length names) (drop node.first c.classes-classes.result.now)) c.as_slice.ensures
    ∙ ap (λ cs. take (length node.pins) (drop node.first cs)) c.classes-classes.ensures.classes in
    let narrow = c.loop-node.invariant.narrow in
    let column = has.reach.narrow in
    let put = c.in_ok-add.ensures in
    let width = put.width in
    record {
      seen = λ k seen. next l n c.requires.library c.requires.netlist nodes c.nodes-node-items.ensures.seen c.nodes-node-items.ensures.known c.nodes-node-items.ensures.numbered
          c.in_ok-reaches.reaches.items are i node r s has own own_is k seen (FIRST_CELL_X + c.loop-node.row.width) c.loop-node.row c.add.new.self refl put (c.loop-node.invariant.seen k seen);
      narrow = omega (arith, narrow, column, width);
    }

pub returns : goal.returns
returns c = λ k seen.
    let l = c.args.library.now in
    let n = c.args.netlist.now in
    let nodes = c.nodes-node-items.result.now in
    let are : AreReaches l n.models c.in_ok-reaches.reaches.items = subst (λ ms. AreReaches l ms c.in_ok-reaches.reaches.items) c.models.ensures c.in_ok-reaches.ensures in
    let classes = ap length c.classes-classes.ensures.classes in
    let few_classes = c.classes-classes.ensures.few in
    let few = few_nodes l n c.requires.library c.requires.netlist nodes c.nodes-node-items.ensures.seen c.nodes-node-items.ensures.known c.nodes-node-items.ensures.numbered
    c.in_ok-reaches.reaches.items are (omega (arith, classes, few_classes)) in
    let plain = c.requires.library in
    let given = c.requires.netlist in
    let ended : c.loop-node.node-index ≡ length nodes = omega arith in
    let narrow = c.loop-node.invariant.narrow in
    whole_row k l plain (orderly l n c.requires.library given k seen) c.loop-node.node-index c.loop-node.row
    (ap length (seen_instances n k seen) ∙ length-map n.instances member_of ∙ ap length (sym c.nodes-node-items.ensures.seen) ∙ length-map nodes (instance_of n.models) ∙ sym ended)
    (omega (arith, few, ended, narrow)) (c.loop-node.invariant.seen k seen)
