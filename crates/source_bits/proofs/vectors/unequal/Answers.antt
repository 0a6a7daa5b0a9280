use Rattle.std.proofs.Common.{◌≡◌, [], ◌∷◌, map, length, ◌∙◌, sym, ap}
use Rattle.std.proofs.lemmas.List.{length-map}
use Rattle.bool_expr.specs.Expression.{Expression, inverse}
use Rattle.bool_expr.specs.View.{view}
use Rattle.source_bits.proofs.Halves.{unequal_more}
use Rattle.source_bits.proofs.vectors.unequal.Goals as goal
use Rattle.source_bits.proofs.vectors.unequal.Goals.{else-len-eq1-via-then-len-eq1+else-len-eq1-2, else-len-eq1-via-else-len-eq1}

pub returns : goal.returns
returns c =
    let xs = map view c.args.left.items in
    let ys = map view c.args.right.items in
    let apart : length xs ≡ 1 → length ys ≡ 1 → ⊥ = λ p q.
    elim c.else-len-eq1.branch [
      | else-len-eq1-via-then-len-eq1+else-len-eq1-2 w ↦ w.if-len-eq1-2.false (w.len-then-len-eq1.ensures ∙ c.args.right.ok.0 ∙ sym (length-map c.args.right.items view) ∙ q)
      | else-len-eq1-via-else-len-eq1 w ↦ w.if-len-eq1.false (c.len.ensures ∙ c.args.left.ok.0 ∙ sym (length-map c.args.left.items view) ∙ p)
    ] in
    c.in_ok-bits.ensures ∙ ap (λ (e : Expression). e ∷ []) (c.in_ok-differs.ensures ∙ ap inverse c.in_ok-same.ensures ∙ sym (unequal_more xs ys apart))
