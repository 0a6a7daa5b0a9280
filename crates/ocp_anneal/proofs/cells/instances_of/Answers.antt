use Rattle.std.proofs.Common.{◌≡◌, ◌<◌, ℕ, List, [], ◌∷◌, ◌++◌, Some, All, length, take, drop, slice_get, refl, sym, subst, ap, ◌∙◌, arith}
use Rattle.std.proofs.lemmas.Option.{slice_get_read}
use Rattle.ocp_place.specs.Reaches.{AreReaches}
use Rattle.ocp_place.proofs.Laid.{node_reach, node_fits, inside, next_width, few_nodes}
use Rattle.ocp_anneal.specs.Cells.{reached_pins}
use Rattle.ocp_anneal.specs.declared.cells.Tied.{Tied}
use Rattle.std.proofs.lemmas.List.{length-map}
use Rattle.net_core.specs.Frame.{instance_of}
use Rattle.ocp_place.proofs.Classes.{known, known_seen}
use Rattle.ocp_anneal.proofs.Instances.{next_pins, few_widths}
use Rattle.ocp_anneal.proofs.cells.instances_of.Goals as goal

pub classes_from-own-requires : goal.classes_from-own-requires
classes_from-own-requires c =
    let l = c.args.library.now in
    let n = c.args.netlist.now in
    let nodes = c.nodes-nodes.result.now in
    let node = c.index-nodes-k.result in
    let i = c.loop-k.k in
    let are : AreReaches l n.models c.in_ok-reaches.reaches.items = subst (λ ms. AreReaches l ms c.in_ok-reaches.reaches.items) c.models.ensures c.in_ok-reaches.ensures in
    let s : slice_get nodes i ≡ Some node = slice_get_read nodes (length nodes) i node refl c.loop-k-test.true c.index-nodes-k.is in
    let fits = node_fits l n c.requires.library c.requires.netlist nodes c.nodes-nodes.ensures.seen c.nodes-nodes.ensures.known c.nodes-nodes.ensures.numbered
    c.in_ok-reaches.reaches.items are i node s in
    let pins = ap length c.as_slice.ensures in
    let classes = ap length c.classes-classes.ensures.classes in
    omega (arith, fits, pins, classes)

pub overflow_cast-k : goal.overflow_cast-k
overflow_cast-k c =
    let l = c.args.library.now in
    let n = c.args.netlist.now in
    let nodes = c.nodes-nodes.result.now in
    let are : AreReaches l n.models c.in_ok-reaches.reaches.items = subst (λ ms. AreReaches l ms c.in_ok-reaches.reaches.items) c.models.ensures c.in_ok-reaches.ensures in
    let classes = ap length c.classes-classes.ensures.classes in
    let few_classes = c.classes-classes.ensures.few in
    let few = few_nodes l n c.requires.library c.requires.netlist nodes c.nodes-nodes.ensures.seen c.nodes-nodes.ensures.known c.nodes-nodes.ensures.numbered
    c.in_ok-reaches.reaches.items are (omega (arith, classes, few_classes)) in
    let low = c.loop-k-test.true in
    omega (arith, few, low)

pub put_pins-requires : goal.put_pins-requires
put_pins-requires c =
    let l = c.args.library.now in
    let n = c.args.netlist.now in
    let nodes = c.nodes-nodes.result.now in
    let node = c.index-nodes-k.result in
    let i = c.loop-k.k in
    let are : AreReaches l n.models c.in_ok-reaches.reaches.items = subst (λ ms. AreReaches l ms c.in_ok-reaches.reaches.items) c.models.ensures c.in_ok-reaches.ensures in
    let s : slice_get nodes i ≡ Some node = slice_get_read nodes (length nodes) i node refl c.loop-k-test.true c.index-nodes-k.is in
    let r = c.index-in-loop-k.result.now in
    let has = node_reach l n c.requires.library c.requires.netlist nodes c.nodes-nodes.ensures.seen c.nodes-nodes.ensures.known c.nodes-nodes.ensures.numbered
    c.in_ok-reaches.reaches.items are i node r s c.index-in-loop-k.ensures in
    let own = c.classes_from-own.result.now in
    let own_is : own ≡ take (length node.pins) (drop node.first n.classes) =
    c.classes_from-own.ensures ∙ ap (λ names. take (length names) (drop node.first c.classes-classes.result.now)) c.as_slice.ensures
    ∙ ap (λ cs. take (length node.pins) (drop node.first cs)) c.classes-classes.ensures.classes in
    subst (λ ps. All (λ p. p.place < length own) ps) (sym c.deref.ensures.value)
    (inside l n c.requires.library c.requires.netlist nodes c.nodes-nodes.ensures.seen c.nodes-nodes.ensures.known c.nodes-nodes.ensures.numbered
    c.in_ok-reaches.reaches.items are i node r s has own own_is)

pub loop-k-preserved : goal.loop-k-preserved
loop-k-preserved c =
    let l = c.args.library.now in
    let n = c.args.netlist.now in
    let nodes = c.nodes-nodes.result.now in
    let node = c.index-nodes-k.result in
    let i = c.loop-k.k in
    let are : AreReaches l n.models c.in_ok-reaches.reaches.items = subst (λ ms. AreReaches l ms c.in_ok-reaches.reaches.items) c.models.ensures c.in_ok-reaches.ensures in
    let s : slice_get nodes i ≡ Some node = slice_get_read nodes (length nodes) i node refl c.loop-k-test.true c.index-nodes-k.is in
    let v = c.index.result.now in
    let wide = node_reach l n c.requires.library c.requires.netlist nodes c.nodes-nodes.ensures.seen c.nodes-nodes.ensures.known c.nodes-nodes.ensures.numbered
    c.in_ok-reaches.reaches.items are i node v s c.index.ensures in
    let r = c.index-in-loop-k.result.now in
    let has = node_reach l n c.requires.library c.requires.netlist nodes c.nodes-nodes.ensures.seen c.nodes-nodes.ensures.known c.nodes-nodes.ensures.numbered
    c.in_ok-reaches.reaches.items are i node r s c.index-in-loop-k.ensures in
    let own = c.classes_from-own.result.now in
    let own_is : own ≡ take (length node.pins) (drop node.first n.classes) =
    c.classes_from-own.ensures ∙ ap (λ names. take (length names) (drop node.first c.classes-classes.result.now)) c.as_slice.ensures
    ∙ ap (λ cs. take (length node.pins) (drop node.first cs)) c.classes-classes.ensures.classes in
    let more : c.push.new.self.items ≡ c.loop-k.widths.items ++ v.width ∷ [] = c.in_ok-push.ensures.items in
    let put : c.put_pins.new.pins.items ≡ c.loop-k.pins.items ++ reached_pins i own r.pins.items =
    c.in_ok-put_pins.ensures ∙ ap (λ ps. c.loop-k.pins.items ++ reached_pins i own ps) c.deref.ensures.value in
    record {
      widths = λ k seen. more ∙ ap (λ (ws : List ℕ). ws ++ v.width ∷ []) (c.loop-k.invariant.widths k seen)
          ∙ sym (next_width l n c.requires.library c.requires.netlist nodes c.nodes-nodes.ensures.seen c.nodes-nodes.ensures.known c.nodes-nodes.ensures.numbered
          c.in_ok-reaches.reaches.items are i node v s wide (take (length node.pins) (drop node.first n.classes)) refl k seen);
      pins = λ k seen. put ∙ ap (λ (ts : List Tied). ts ++ reached_pins i own r.pins.items) (c.loop-k.invariant.pins k seen)
          ∙ next_pins l n c.requires.library c.requires.netlist nodes c.nodes-nodes.ensures.seen c.nodes-nodes.ensures.known c.nodes-nodes.ensures.numbered
          c.in_ok-reaches.reaches.items are i node r s has own own_is k seen;
    }

pub returns-clause-few : goal.returns-clause-few
returns-clause-few c =
    let l = c.args.library.now in
    let n = c.args.netlist.now in
    let nodes = c.nodes-nodes.result.now in
    let are : AreReaches l n.models c.in_ok-reaches.reaches.items = subst (λ ms. AreReaches l ms c.in_ok-reaches.reaches.items) c.models.ensures c.in_ok-reaches.ensures in
    let classes = ap length c.classes-classes.ensures.classes in
    let few_classes = c.classes-classes.ensures.few in
    let few = few_nodes l n c.requires.library c.requires.netlist nodes c.nodes-nodes.ensures.seen c.nodes-nodes.ensures.known c.nodes-nodes.ensures.numbered
    c.in_ok-reaches.reaches.items are (omega (arith, classes, few_classes)) in
    let many : length nodes ≡ length n.instances = sym (length-map nodes (instance_of n.models)) ∙ ap length c.nodes-nodes.ensures.seen in
    let k = known n in
    let seen = known_seen n c.requires.netlist.sound in
    few_widths n k seen l c.loop-k.widths.items c.loop-k.k (c.loop-k.invariant.widths k seen) (omega (arith, few, many))
