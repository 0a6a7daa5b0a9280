-- Equations from one of them on.
use Rattle.std.proofs.Common.{◌≡◌, ℕ, suc, ◌+◌, ◌<◌, Bool, List, [], ◌∷◌, ◌++◌, map, length, drop, sym, ◌∙◌, ap, subst, add-one, drop-cons, length-append}
use Rattle.std.specs.List.{slice_index_or}
use Rattle.bool_expr.specs.Expression.{val, IsOver}
use Rattle.bool_expr.specs.View.{view}
use Rattle.machine_core.specs.declared.equation.Equation.{Equation}
use Rattle.machine_core.specs.Built.{built}
use Rattle.machine_core.specs.Order.{EachReadsBelow}
use Rattle.machine_core.specs.View.{equation_view}

-- what is left of the equations from number i on gives the whole
pub record Continues (start w : List Bool) (equations : List Equation) (i : ℕ) : Type 0 where
  pub below : EachReadsBelow (length w) (map equation_view (drop i equations))
  pub same : built w (map equation_view (drop i equations)) ≡ built start (map equation_view equations)

pub rest-cons : (equations : List Equation) (i : ℕ) (e : Equation) → i < length equations → e ≡ slice_index_or equations i e
    → map equation_view (drop i equations) ≡ equation_view e ∷ map equation_view (drop (i + 1) equations)
rest-cons equations i e h is =
    ap (map equation_view) (drop-cons equations i e h) ∙ ap (λ x. equation_view x ∷ map equation_view (drop (suc i) equations)) (sym is)
    ∙ ap (λ k. equation_view e ∷ map equation_view (drop k equations)) (sym (add-one i))

pub reads_next : (start w : List Bool) (equations : List Equation) (i : ℕ) (e : Equation) → i < length equations → e ≡ slice_index_or equations i e
    → Continues start w equations i → IsOver (view e.expr) (length w)
reads_next start w equations i e h is c =
    let P : List _ → Type 0 = λ x. EachReadsBelow (length w) x in (subst P (rest-cons equations i e h is) c.below).0

pub goes_on : (start w : List Bool) (equations : List Equation) (i : ℕ) (e : Equation) → i < length equations → e ≡ slice_index_or equations i e
    → Continues start w equations i → Continues start (w ++ val (view e.expr) w ∷ []) equations (i + 1)
goes_on start w equations i e h is c =
    let P : List _ → Type 0 = λ x. EachReadsBelow (length w) x in
    let Q : ℕ → Type 0 = λ n. EachReadsBelow n (map equation_view (drop (i + 1) equations)) in
    record {
      below = subst Q (sym (length-append w (val (view e.expr) w ∷ []))) (subst P (rest-cons equations i e h is) c.below).1;
      same = sym (ap (built w) (rest-cons equations i e h is)) ∙ c.same;
    }
