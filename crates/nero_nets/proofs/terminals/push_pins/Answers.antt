use Rattle.std.proofs.Common.{◌≡◌, Some, length, take, drop, slice_get, refl, ap, ◌∙◌, arith}
use Rattle.std.proofs.lemmas.Option.{slice_get_read}
use Rattle.nero_nets.proofs.Pins.{node_fits, own_many, next_pins}
use Rattle.nero_nets.proofs.terminals.push_pins.Goals as goal

pub classes_from-own-requires : goal.classes_from-own-requires
classes_from-own-requires c =
    let n = c.args.netlist.now in
    let nodes = c.nodes-node-items.result.now in
    let node = c.node-item.result in
    let i = c.loop-node.node-index in
    let s : slice_get nodes i ≡ Some node = slice_get_read nodes (length nodes) i node refl c.loop-node-test.true c.node-item.is in
    let fits = node_fits n c.classes-classes.ensures.sound nodes c.nodes-node-items.ensures.seen c.nodes-node-items.ensures.numbered i node s in
    let pins = ap length c.as_slice.ensures in
    let classes = ap length c.classes-classes.ensures.classes in
    omega (arith, fits, pins, classes)

pub push_own-requires : goal.push_own-requires
push_own-requires c =
    let n = c.args.netlist.now in
    let nodes = c.nodes-node-items.result.now in
    let node = c.node-item.result in
    let i = c.loop-node.node-index in
    let s : slice_get nodes i ≡ Some node = slice_get_read nodes (length nodes) i node refl c.loop-node-test.true c.node-item.is in
    let own = c.classes_from-own.result.now in
    let own_is : own ≡ take (length node.pins) (drop node.first n.classes) =
    c.classes_from-own.ensures ∙ ap (λ names. take (length names) (drop node.first c.classes-classes.result.now)) c.as_slice.ensures
    ∙ ap (λ cs. take (length node.pins) (drop node.first cs)) c.classes-classes.ensures.classes in
    let many = own_many n c.classes-classes.ensures.sound nodes c.nodes-node-items.ensures.seen c.nodes-node-items.ensures.numbered i node s own own_is in
    omega (arith, many)

pub loop-node-preserved : goal.loop-node-preserved
loop-node-preserved c = λ k seen.
    let n = c.args.netlist.now in
    let nodes = c.nodes-node-items.result.now in
    let node = c.node-item.result in
    let i = c.loop-node.node-index in
    let s : slice_get nodes i ≡ Some node = slice_get_read nodes (length nodes) i node refl c.loop-node-test.true c.node-item.is in
    let own = c.classes_from-own.result.now in
    let own_is : own ≡ take (length node.pins) (drop node.first n.classes) =
    c.classes_from-own.ensures ∙ ap (λ names. take (length names) (drop node.first c.classes-classes.result.now)) c.as_slice.ensures
    ∙ ap (λ cs. take (length node.pins) (drop node.first cs)) c.classes-classes.ensures.classes in
    next_pins n c.classes-classes.ensures.sound nodes c.nodes-node-items.ensures.seen c.nodes-node-items.ensures.numbered i node s own own_is k seen c.args.class
    c.args.made.now.items c.loop-node.made.items c.push_own.new.made.items c.in_ok-push_own.ensures (c.loop-node.invariant k seen)
