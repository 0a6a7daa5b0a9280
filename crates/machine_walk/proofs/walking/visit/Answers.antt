use Rattle.std.proofs.Common.{◌≡◌, ℕ, ◌+◌, ◌-◌, ◌<◌, Bool, false, length, List, map, slice_get, Some, refl, sym, ap, subst, ◌∙◌, arith}
use Rattle.bool_expr.specs.Expression.{bit}
use Rattle.bool_expr.specs.View.{view}
use Rattle.machine_core.specs.declared.equation.Equation.{Equation as EquationParts}
use Rattle.machine_core.specs.Machine.{Equation}
use Rattle.machine_core.specs.View.{equation_view}
use Rattle.machine_walk.specs.Expansion.{held_count}
use Rattle.machine_walk.specs.Turn.{inner}
use Rattle.machine_walk.proofs.Stacks.{frame, at_equation, bit_at, put_behind}
use Rattle.machine_walk.proofs.walking.visit.Goals as goal

pub returns-in_ok-push-2 : goal.returns-in_ok-push-2
returns-in_ok-push-2 c =
    let m = c.args.m.now in
    let es : map equation_view c.as_slice-equations.result.now ≡ m.equations = ap (map equation_view) c.as_slice-equations.ensures ∙ c.equations.ensures.value in
    let f = frame m c.equations.ensures.checked.ordered c.as_slice.result.now c.as_slice-equations.result.now (c.as_slice.ensures ∙ c.vars.ensures.value) es in
    let within : c.args.name < length c.args.walked.now.met.items = omega (arith, c.requires.known, c.requires.marks) in
    let unmarked : bit c.args.walked.now.met.items c.args.name ≡ false = bit_at c.args.walked.now.met.items c.args.name _ within c.index.ensures ∙ c.if-index.false in
    let number : c.args.name ≡ held_count m + (c.args.name - (length c.as_slice.result.now - length c.as_slice-equations.result.now)) = omega (arith, f.1, c.if-place-held.false) in
    let small : c.args.name - (length c.as_slice.result.now - length c.as_slice-equations.result.now) < length c.as_slice-equations.result.now =
    omega (arith, f.1, f.2, c.requires.known, c.if-place-held.false) in
    record {
      meeting =
          inner (c.args.name - (length c.as_slice.result.now - length c.as_slice-equations.result.now)) (equation_view c.index-equations-place.result) number
          (subst (λ (xs : List Equation). slice_get xs (c.args.name - (length c.as_slice.result.now - length c.as_slice-equations.result.now)) ≡ Some (equation_view c.index-equations-place.result)) es
          (at_equation c.as_slice-equations.result.now _ c.index-equations-place.result small c.index-equations-place.is)) unmarked (refl {A = List Bool}) (refl {A = List ℕ})
          (put_behind _ _ _ _ (ap (λ (y : EquationParts). view y.expr) (sym c.index-equations-place.is)) c.in_ok-push-2.ensures.items);
    }
