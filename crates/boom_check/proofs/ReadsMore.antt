-- Equations that are read through one after another.
use Rattle.std.proofs.Common.{◌≡◌, ℕ, ◌+◌, ◌<◌, List, [], ◌∷◌, ◌++◌, length, map, take, get_or, sym, ap, subst, ◌∙◌, arith}
use Rattle.std.proofs.lemmas.List.{length-map, length-take}
use Rattle.bool_expr.specs.Expression.{IsOver}
use Rattle.bool_expr.specs.View.{view}
use Rattle.machine_core.specs.declared.equation.Equation.{Equation as EquationParts}
use Rattle.machine_core.specs.Machine.{Equation}
use Rattle.machine_core.specs.Order.{EachReadsBelow}
use Rattle.machine_core.specs.View.{equation_view}
use Rattle.boom_muxes.proofs.Sound.{reads_append}
use Rattle.boom_check.proofs.Lists.{map_push, take_next}

pub reads_more : (first : ℕ) (es : List EquationParts) (i : ℕ) (e : EquationParts) → i < length es → e ≡ get_or es i e → EachReadsBelow first (map equation_view (take i es))
    → IsOver (view e.expr) (first + i) → EachReadsBelow first (map equation_view (take (i + 1) es))
reads_more first es i e inside is reads over =
    let all : map equation_view (take (i + 1) es) ≡ map equation_view (take i es) ++ equation_view e ∷ [] = ap (map equation_view) (take_next es i e inside is) ∙ map_push equation_view (take i es) e in
    let many : length (map equation_view (take i es)) ≡ i = length-map (take i es) equation_view ∙ (let l = length-take i es in omega (arith, l, inside)) in
    subst (λ (l : List Equation). EachReadsBelow first l) (sym all)
    (reads_append first (map equation_view (take i es)) (equation_view e ∷ []) reads (subst (λ (n : ℕ). EachReadsBelow (first + n) (equation_view e ∷ [])) (sym many) (over, tt)))
