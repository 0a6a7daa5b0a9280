use Rattle.std.proofs.Common.{◌≡◌, ℕ, Bool, not, ◌&&◌, List, [], ◌∷◌, ◌++◌, filter, ap, ap₂, sym, ◌∙◌}
use Rattle.std.specs.List.{range_with_len}
use Rattle.graph_theory.specs.Graph.{Node}
use Rattle.boog_tree.specs.Trees.{is_gate, is_root}
use Rattle.boog_tree.proofs.Roots.{filter_more, kept_yes, kept_no}
use Rattle.boog_tree.proofs.least.roots.Goals as goal
use Rattle.boog_tree.proofs.least.roots.Goals.{then-is_root+in_ok-push, else-is_root}

pub loop-number-preserved : goal.loop-number-preserved
loop-number-preserved c =
    let g = c.args.graph.now in
    let n = c.loop-number.number in
    let f = is_root c.args.held g in
    let before = filter f (range_with_len 0 n) in
    let same : c.is_root.result ≡ is_root c.args.held g n =
    c.is_root.ensures
    ∙ ap₂ (λ (a b : Bool). a && not b) (c.is_gate-gate.ensures ∙ ap (λ (ns : List Node). is_gate c.args.held ns n) c.nodes.ensures) (c.requires.inner.each n) in
    elim c.if-is_root.branch [
      | then-is_root+in_ok-push w ↦
          ap (λ v. v.items) w.trees-is ∙ w.in_ok-push.ensures.items ∙ ap (λ (xs : List ℕ). xs ++ n ∷ []) c.loop-number.invariant
          ∙ sym (filter_more f n ∙ kept_yes (f n) before n (sym same ∙ w.if-is_root.true))
      | else-is_root w ↦
          ap (λ v. v.items) w.trees-is ∙ c.loop-number.invariant ∙ sym (filter_more f n ∙ kept_no (f n) before n (sym same ∙ w.if-is_root.false))
    ]
