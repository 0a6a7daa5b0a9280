-- Operators one inside the other.
use Rattle.std.proofs.Common.{◌≡◌, List, [], ◌∷◌, ◌++◌, refl, sym, ap, ◌∙◌}
use Rattle.bool_expr.specs.declared.copies.Step.{Step}
use Rattle.bool_expr.specs.Expression.{Expression}
use Rattle.bool_expr.specs.Steps.{with_step, with_steps}

-- the last operator stands inside the others
pub with_steps_push : (ss : List Step) (s : Step) (t : Expression) → with_steps (ss ++ s ∷ []) t ≡ with_steps ss (with_step s t)
with_steps_push [] s t = refl
with_steps_push (x ∷ ss) s t = ap (with_step x) (with_steps_push ss s t)

-- a step down: what was left is the operator over what is left now
pub with_steps_more : (ss : List Step) (s : Step) (items : List Step) (t whole all : Expression) → items ≡ ss ++ s ∷ [] → whole ≡ with_step s t → with_steps ss whole ≡ all → with_steps items t ≡ all
with_steps_more ss s items t whole all pushed is so_far =
    ap (λ (xs : List Step). with_steps xs t) pushed ∙ with_steps_push ss s t ∙ ap (with_steps ss) (sym is) ∙ so_far
