use Rattle.std.proofs.Common.{◌∷◌, [], ◌++◌, map, Some, length, ap, ◌∙◌}
use Rattle.vlsi_base.specs.declared.name.Name.{Name}
use Rattle.machine_core.specs.declared.equation.Equation.{Equation as EquationParts}
use Rattle.boom_muxes.proofs.Turns.{rising_turn}
use Rattle.boom_check.proofs.Lists.{map_push}
use Rattle.boom_check.proofs.assembling.inner_equations.Goals as goal

pub loop-k-preserved : goal.loop-k-preserved
loop-k-preserved c =
    let made : EquationParts = record { name = c.in_ok-name.name; expr = c.in_ok-expr.expr } in
    rising_turn (λ k. record { text = c.args.text.now; bit = Some k }) c.loop-k.k (length c.args.inner.now) (map (λ (e : EquationParts). e.name) c.loop-k.made.items) _ _ c.loop-k-test.true
    (ap (map (λ (e : EquationParts). e.name)) c.in_ok-push.ensures.items ∙ map_push (λ (e : EquationParts). e.name) c.loop-k.made.items made
    ∙ ap (λ (x : Name). map (λ (e : EquationParts). e.name) c.loop-k.made.items ++ x ∷ []) c.in_ok-name.ensures)
    c.loop-k.invariant
