-- Lists that give no variable another number, and lists that give each one its number.
use Rattle.std.proofs.Common.{◌≡◌, ℕ, List, [], length, refl, ap, ◌∙◌}
use Rattle.std.proofs.lemmas.List.{get_or_default}
use Rattle.bool_expr.specs.Expression.{Expression, constant, variable, inverse, pair, choice, IsOver}
use Rattle.bool_expr.specs.Renumbering.{renumbered, renumbered_within}

-- over the empty list each variable stays
pub within_none : (e : Expression) → renumbered_within [] e ≡ e
within_none (constant b) = refl
within_none (variable k) = refl
within_none (inverse e) = ap (λ x. inverse x) (within_none e)
within_none (pair g a b) = ap (λ x. pair g x (renumbered_within [] b)) (within_none a) ∙ ap (λ x. pair g a x) (within_none b)
within_none (choice c a b) =
    ap (λ x. choice x (renumbered_within [] a) (renumbered_within [] b)) (within_none c)
    ∙ ap (λ x. choice c x (renumbered_within [] b)) (within_none a) ∙ ap (λ x. choice c a x) (within_none b)

-- where the list has a number for each variable, none stays
pub within_all : (numbers : List ℕ) (e : Expression) → IsOver e (length numbers) → renumbered_within numbers e ≡ renumbered numbers e
within_all numbers (constant b) over = refl
within_all numbers (variable k) over = ap (λ x. variable x) (get_or_default numbers k k 0 over)
within_all numbers (inverse e) over = ap (λ x. inverse x) (within_all numbers e over)
within_all numbers (pair g a b) over =
    ap (λ x. pair g x (renumbered_within numbers b)) (within_all numbers a over.0) ∙ ap (λ x. pair g (renumbered numbers a) x) (within_all numbers b over.1)
within_all numbers (choice c a b) over =
    ap (λ x. choice x (renumbered_within numbers a) (renumbered_within numbers b)) (within_all numbers c over.0)
    ∙ ap (λ x. choice (renumbered numbers c) x (renumbered_within numbers b)) (within_all numbers a over.1.0)
    ∙ ap (λ x. choice (renumbered numbers c) (renumbered numbers a) x) (within_all numbers b over.1.1)
