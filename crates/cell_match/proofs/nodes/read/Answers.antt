use Rattle.std.proofs.Common.{◌≡◌, ◌≢◌, inl, inr, ℕ, ◌+◌, List, ◌++◌, ◌∷◌, [], take, get_or, length, ap, sym, subst, ◌∙◌}
use Rattle.std.proofs.lemmas.Bool.{eqb-true}
use Rattle.cell_match.specs.Places.{place, AreRead}
use Rattle.cell_match.proofs.Reading.{read_skip, read_add, read_full, new_there, old_there}
use Rattle.cell_match.proofs.nodes.read.Goals as goal
use Rattle.cell_match.proofs.nodes.read.Goals.{then-node-a+then-place-len+else-is_full, else-node-a, else-node-a-via-then-node-a+else-place-len, else-node-a-via-else-node-a}

pub returns-then-is_full-clause-none : goal.returns-then-is_full-clause-none
returns-then-is_full-clause-none c =
    let y = get_or c.args.second.now c.loop-leaf.leaf-index 0 in
    let here : place y c.loop-leaf.nodes.items ≡ length c.loop-leaf.nodes.items =
    ap (λ (xs : List ℕ). place y xs) (sym c.as_slice.ensures.value) ∙ sym c.place.ensures ∙ c.if-place-len.true ∙ c.len.ensures.value in
    read_full c.args.first.now c.args.second.now c.args.a c.loop-leaf.leaf-index c.loop-leaf.nodes.items c.loop-leaf-test.true c.loop-leaf.invariant
    c.if-node-a.true (new_there y c.loop-leaf.nodes.items here) (eqb-true (length c.loop-leaf.nodes.items) 6 (sym c.if-is_full.ensures.value))

pub loop-leaf-preserved : goal.loop-leaf-preserved
loop-leaf-preserved c =
    let y = get_or c.args.second.now c.loop-leaf.leaf-index 0 in
    let nodes = c.loop-leaf.nodes.items in
    let next = take (c.loop-leaf.leaf-index + 1) c.args.second.now in
    elim c.if-node-a.branch [
      | then-node-a+then-place-len+else-is_full w ↦
          let here : place y nodes ≡ length nodes =
          ap (λ (xs : List ℕ). place y xs) (sym w.as_slice.ensures.value) ∙ sym w.place.ensures ∙ w.if-place-len.true ∙ w.len.ensures.value in
          let is : c.if-node-a.nodes.items ≡ nodes ++ y ∷ [] = ap (λ v. v.items) w.nodes-is ∙ w.push.ensures.items in
          subst (λ (xs : List ℕ). AreRead c.args.first.now next c.args.a xs) (sym is)
          (read_add c.args.first.now c.args.second.now c.args.a c.loop-leaf.leaf-index nodes c.loop-leaf-test.true c.loop-leaf.invariant w.if-node-a.true (new_there y nodes here))
      | else-node-a w ↦
          let is : c.if-node-a.nodes.items ≡ nodes = ap (λ v. v.items) w.nodes-is in
          subst (λ (xs : List ℕ). AreRead c.args.first.now next c.args.a xs) (sym is)
          (elim w.else-node-a.branch [
            | else-node-a-via-then-node-a+else-place-len u ↦
                let other : place y nodes ≢ length nodes = λ e. u.if-place-len.false
                (u.place.ensures ∙ ap (λ (xs : List ℕ). place y xs) u.as_slice.ensures.value ∙ e ∙ sym u.len.ensures.value) in
                read_skip c.args.first.now c.args.second.now c.args.a c.loop-leaf.leaf-index nodes c.loop-leaf-test.true c.loop-leaf.invariant (inr (old_there y nodes other))
            | else-node-a-via-else-node-a u ↦
                read_skip c.args.first.now c.args.second.now c.args.a c.loop-leaf.leaf-index nodes c.loop-leaf-test.true c.loop-leaf.invariant (inl u.if-node-a.false)
          ])
    ]
