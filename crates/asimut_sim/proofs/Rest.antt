-- Equations from one of them on.
use Rattle.std.proofs.Common.{◌≡◌, ℕ, suc, ◌+◌, ◌<◌, List, ◌∷◌, map, length, drop, sym, ◌∙◌, ap, add-one, drop-cons}
use Rattle.std.specs.List.{slice_index_or}
use Rattle.machine_core.specs.declared.equation.Equation.{Equation}
use Rattle.machine_core.specs.View.{equation_view}

pub rest-cons : (equations : List Equation) (i : ℕ) (e : Equation) → i < length equations → e ≡ slice_index_or equations i e
    → map equation_view (drop i equations) ≡ equation_view e ∷ map equation_view (drop (i + 1) equations)
rest-cons equations i e h is =
    ap (map equation_view) (drop-cons equations i e h) ∙ ap (λ x. equation_view x ∷ map equation_view (drop (suc i) equations)) (sym is)
    ∙ ap (λ k. equation_view e ∷ map equation_view (drop k equations)) (sym (add-one i))
