use Rattle.std.proofs.Common.{◌≡◌, ℕ, List, Some, All, ◌≤◌, ◌∷◌, [], length, take, drop, slice_get, ◌++◌, refl, sym, subst, ap, ◌∙◌, arith}
use Rattle.std.proofs.lemmas.List.{length-append}
use Rattle.std.proofs.lemmas.List.Elements.{All-push}
use Rattle.std.proofs.lemmas.Option.{slice_get_read}
use Rattle.ocp_place.specs.Reaches.{AreReaches}
use Rattle.ocp_place.specs.Stood.{instance_widths}
use Rattle.ocp_place.proofs.Laid.{node_reach, next_width, few_nodes}
use Rattle.ocp_place.proofs.Standing.{whole_cells}
use Rattle.ocp_place.proofs.rows.cells_of.Goals as goal

pub loop-node-preserved : goal.loop-node-preserved
loop-node-preserved c =
    let l = c.args.library.now in
    let n = c.args.netlist.now in
    let nodes = c.nodes-node-items.result.now in
    let node = c.node-item.result in
    let i = c.loop-node.node-index in
    let are : AreReaches l n.models c.in_ok-reaches.reaches.items = subst (λ ms. AreReaches l ms c.in_ok-reaches.reaches.items) c.models.ensures c.in_ok-reaches.ensures in
    let s : slice_get nodes i ≡ Some node = slice_get_read nodes (length nodes) i node refl c.loop-node-test.true c.node-item.is in
    let r = c.index.result.now in
    let has = node_reach l n c.requires.library c.requires.netlist nodes c.nodes-node-items.ensures.seen c.nodes-node-items.ensures.known c.nodes-node-items.ensures.numbered
    c.in_ok-reaches.reaches.items are i node r s c.index.ensures in
    let old = c.loop-node.widths.items in
    let more : c.push.new.self.items ≡ old ++ r.width ∷ [] = c.in_ok-push.ensures.items in
    let narrow = has.reach.narrow in
    let many = c.loop-node.invariant.many in
    record {
      seen = λ k seen. more ∙ ap (λ (ws : List ℕ). ws ++ r.width ∷ []) (c.loop-node.invariant.seen k seen)
          ∙ sym (next_width l n c.requires.library c.requires.netlist nodes c.nodes-node-items.ensures.seen c.nodes-node-items.ensures.known c.nodes-node-items.ensures.numbered
          c.in_ok-reaches.reaches.items are i node r s has (take (length node.pins) (drop node.first n.classes)) refl k seen);
      many = (let a = ap length more in let b = length-append old (r.width ∷ []) in omega (arith, a, b, many));
      narrow = subst (λ (ws : List ℕ). All (λ w. w ≤ 16000) ws) (sym more) (All-push (λ w. w ≤ 16000) old r.width c.loop-node.invariant.narrow narrow);
    }

pub returns : goal.returns
returns c =
    let l = c.args.library.now in
    let n = c.args.netlist.now in
    let nodes = c.nodes-node-items.result.now in
    let i = c.loop-node.node-index in
    let are : AreReaches l n.models c.in_ok-reaches.reaches.items = subst (λ ms. AreReaches l ms c.in_ok-reaches.reaches.items) c.models.ensures c.in_ok-reaches.ensures in
    let classes = ap length c.classes.ensures.classes in
    let few_classes = c.classes.ensures.few in
    let few = few_nodes l n c.requires.library c.requires.netlist nodes c.nodes-node-items.ensures.seen c.nodes-node-items.ensures.known c.nodes-node-items.ensures.numbered
    c.in_ok-reaches.reaches.items are (omega (arith, classes, few_classes)) in
    let many = c.loop-node.invariant.many in
    whole_cells l n nodes c.nodes-node-items.ensures.seen c.in_ok-reaches.reaches c.loop-node.widths are few (many ∙ (let e : i ≡ length nodes = omega arith in e))
    (λ k seen. c.loop-node.invariant.seen k seen ∙ ap (λ (j : ℕ). instance_widths l (take j k.instances)) (let e : i ≡ length nodes = omega arith in e)) c.loop-node.invariant.narrow
