use Rattle.std.proofs.Common.{◌≡◌, ℕ, List, length, map, sym, ap, ◌∙◌, subst, refl}
use Rattle.std.proofs.lemmas.List.{length-map}
use Rattle.std.specs.Global.{Vec}
use Rattle.bool_expr.specs.View.{view}
use Rattle.bit_order.specs.Order.{IsOrderOf}
use Rattle.source_bits.specs.declared.driven.DrivenBit.{DrivenBit}
use Rattle.vlsi_model.specs.Nodes.{nodes_read}
use Rattle.vlsi_model.proofs.NodeLemmas.{reads_inside, read_In, lists_of}
use Rattle.vlsi_model.proofs.nodes.node_order.Goals as goal

pub order-requires-clause-inside : goal.order-requires-clause-inside
order-requires-clause-inside c =
    let driven = c.args.driven.now in
    let f = λ (d : DrivenBit). nodes_read (length driven) c.deref.result.now (view d.expr) in
    let same = ap (λ (rs : List (Vec ℕ)). map (λ (r : Vec ℕ). r.items) rs) c.deref-2.ensures.value ∙ c.in_ok-reads.ensures in
    reads_inside f driven c.deref-2.result.now (length driven) same refl (λ d j i. (read_In (length driven) c.deref.result.now (view d.expr) j i).3)

pub returns : goal.returns
returns c =
    let driven = c.args.driven.now in
    let bits = map (λ (d : DrivenBit). d.bit) driven in
    let count : length bits ≡ length driven = length-map driven (λ (d : DrivenBit). d.bit) in
    let same = ap (λ (rs : List (Vec ℕ)). map (λ (r : Vec ℕ). r.items) rs) c.deref-2.ensures.value ∙ c.in_ok-reads.ensures in
    record {
      nodes = c.in_ok-nodes.nodes.items;
      has = c.in_ok-nodes.ensures;
      order = subst (λ (rs : List (List ℕ)). IsOrderOf rs c.in_ok-made.made) (same ∙ lists_of (length driven) (length bits) c.deref.result.now c.in_ok-nodes.nodes.items driven (sym count) c.deref.ensures.value) c.in_ok-made.ensures;
    }
