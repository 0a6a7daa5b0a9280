use Rattle.std.proofs.Common.{◌≡◌, ◌+◌, ◌&&◌, ℕ, Bool, List, [], ◌∷◌, length, get_or, inl, inr, ap, ap₂, sym, ◌∙◌, arith, length-append}
use Rattle.std.proofs.lemmas.Bool.{cases_lt}
use Rattle.bool_expr.specs.Expression.{bit}
use Rattle.graph_theory.specs.Graph.{Node}
use Rattle.boog_tree.specs.Trees.{is_gate, is_inner, pin_uses, root_uses}
use Rattle.boog_tree.proofs.Counting.{same_test}
use Rattle.boog_tree.proofs.Steps.{inner_past, bit_past, bit_front, bit_last}
use Rattle.boog_tree.proofs.inner.marked.Goals as goal

pub loop-number-preserved : goal.loop-number-preserved
loop-number-preserved c =
    let g = c.args.graph.now in
    let n = c.loop-number.number in
    let old = c.loop-number.inner.items in
    let b = c.is_used_once.result in
    let pins = c.requires.pins n in
    let roots = c.requires.roots n in
    let one = same_test (get_or c.args.by_pins.now n 0) 1 (pin_uses n g.nodes) 1 (λ e. omega (arith, e, pins)) (λ e. omega (arith, e, pins)) in
    let none = same_test (get_or c.args.by_roots.now n 0) 0 (root_uses n g) 0 (λ e. omega (arith, e, roots)) (λ e. omega (arith, e, roots)) in
    let is : b ≡ is_inner c.args.held g n =
    c.is_used_once.ensures
    ∙ ap₂ (λ (s t : Bool). s && t) (c.is_gate-gate.ensures ∙ ap (λ (ns : List Node). is_gate c.args.held ns n) c.nodes.ensures) (ap₂ (λ (s t : Bool). s && t) one none) in
    let more = c.in_ok-push.ensures.items in
    let longer = ap (λ (l : List Bool). length l) more ∙ length-append old (b ∷ []) in
    record {
      long = omega (arith, longer, c.loop-number.invariant.long);
      each = λ x below. elim (cases_lt x n) [
        | inl less ↦
            ap (λ (l : List Bool). bit l x) more ∙ bit_front old b x (omega (arith, less, c.loop-number.invariant.long)) ∙ c.loop-number.invariant.each x less
        | inr high ↦
            let here : n ≡ x = omega (arith, below, high) in
            ap (λ (l : List Bool). bit l x) more ∙ bit_last old b x (c.loop-number.invariant.long ∙ here) ∙ is ∙ ap (λ (k : ℕ). is_inner c.args.held g k) here
      ];
    }

pub returns : goal.returns
returns c =
    let all : c.loop-number.number ≡ c.args.held + length c.args.graph.now.nodes = omega (arith, c.loop-number.auto.number-end, c.loop-number-test.false, c.requires.long) in
    record {
      many = c.loop-number.invariant.long ∙ all;
      each = λ x. elim (cases_lt x c.loop-number.number) [
        | inl less ↦ c.loop-number.invariant.each x less
        | inr high ↦
            bit_past c.loop-number.inner.items x (omega (arith, high, c.loop-number.invariant.long))
            ∙ sym (inner_past c.args.held c.args.graph.now x (omega (arith, high, all)))
      ];
    }
