use Rattle.std.proofs.Common.{sym, subst, rules}
use Rattle.std.specs.Prelude.{◌↔◌, IsTrue}
use Rattle.std.specs.List.Sorted.{IsBinarySearchResult}
use Rattle.std.proofs.lemmas.List.Sorted.{answers_always}
use Rattle.vlsi_base.specs.Member.{In}
use Rattle.maze_wires.proofs.Orders.{key_cmp, via_place, vias_one}
use Rattle.maze_wires.proofs.Searching.{searched}
use Rattle.maze_wires.proofs.nodes.has_node.Goals as goal

pub returns : goal.returns
returns c =
    let nodes = c.args.nodes.now in
    let r = c.binary_search_by_key.result in
    subst (λ b. IsTrue b ↔ In c.args.node.now nodes) (sym c.is_ok.ensures.value)
    (searched via_place vias_one nodes c.requires c.args.node.now r
    (subst (λ k. IsBinarySearchResult (λ y. key_cmp (via_place y) k) nodes r) c.via_key-key.ensures
    (c.binary_search_by_key.ensures.position via_place (answers_always _ _ _ (λ f a r g h. search rules))))
    c.binary_search_by_key.ensures.bound)
