use Rattle.std.proofs.lemmas.Bool.{eqb-true}
use Rattle.std.proofs.Common.{◌≡◌, ◌≢◌, ℕ, ◌+◌, List, ◌++◌, ◌∷◌, [], take, get_or, length, ap, sym, subst, ◌∙◌, arith, length-append}
use Rattle.cell_match.specs.Places.{place}
use Rattle.cell_match.proofs.Reading.{new_there, old_there}
use Rattle.boog_cuts.specs.Cuts.{IsUnion}
use Rattle.boog_cuts.proofs.Joining.{union_skip, union_add, union_full}
use Rattle.boog_cuts.proofs.merge.joined.Goals as goal
use Rattle.boog_cuts.proofs.merge.joined.Goals.{then-place-len+else-is_full, else-place-len}

pub loop-leaf-preserved : goal.loop-leaf-preserved
loop-leaf-preserved g c =
    let y = get_or c.args.second.now c.loop-leaf.leaf-index 0 in
    let nodes = c.loop-leaf.nodes.items in
    let next = take (c.loop-leaf.leaf-index + 1) c.args.second.now in
    let is_place = c.place.ensures ∙ ap (λ (xs : List ℕ). place y xs) c.as_slice.ensures.value in
    let is_len = c.len.ensures.value in
    let many = c.loop-leaf.invariant.many in
    elim c.if-place-len.branch [
      | then-place-len+else-is_full w ↦
          let here : place y nodes ≡ length nodes = sym is_place ∙ w.if-place-len.true ∙ is_len in
          let is : c.if-place-len.nodes.items ≡ nodes ++ y ∷ [] = ap (λ v. v.items) w.nodes-is ∙ w.push.ensures.items in
          let longer = length-append nodes (y ∷ []) in
          let long = ap (λ (xs : List ℕ). length xs) is in
          record {
            union = subst (λ (xs : List ℕ). IsUnion c.args.first.now next xs) (sym is)
                (union_add c.args.first.now c.args.second.now c.loop-leaf.leaf-index nodes c.loop-leaf-test.true c.loop-leaf.invariant.union (new_there y nodes here));
            many = omega (arith, long, longer, many);
          }
      | else-place-len w ↦
          let other : place y nodes ≢ length nodes = λ e. w.if-place-len.false (is_place ∙ e ∙ sym is_len) in
          let is : c.if-place-len.nodes.items ≡ nodes = ap (λ v. v.items) w.nodes-is in
          let long = ap (λ (xs : List ℕ). length xs) is in
          record {
            union = subst (λ (xs : List ℕ). IsUnion c.args.first.now next xs) (sym is)
                (union_skip c.args.first.now c.args.second.now c.loop-leaf.leaf-index nodes c.loop-leaf-test.true c.loop-leaf.invariant.union (old_there y nodes other));
            many = omega (arith, long, many);
          }
    ]

pub returns-then-is_full-clause-wide : goal.returns-then-is_full-clause-wide
returns-then-is_full-clause-wide g c = λ all whole.
    let y = get_or c.args.second.now c.loop-leaf.leaf-index 0 in
    let nodes = c.loop-leaf.nodes.items in
    let is_place = c.place.ensures ∙ ap (λ (xs : List ℕ). place y xs) c.as_slice.ensures.value in
    let here : place y nodes ≡ length nodes = sym is_place ∙ c.if-place-len.true ∙ c.len.ensures.value in
    let full = eqb-true (length nodes) g.row.K (sym c.if-is_full.ensures.value) in
    let more = union_full c.args.first.now c.args.second.now c.loop-leaf.leaf-index nodes c.loop-leaf-test.true c.loop-leaf.invariant.union (new_there y nodes here) all whole in
    omega (arith, full, more)
