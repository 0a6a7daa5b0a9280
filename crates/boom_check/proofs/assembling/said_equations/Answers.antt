use Rattle.std.proofs.Common.{List, map, take, ◌+◌, sym, subst}
use Rattle.std.specs.List.{AllZip}
use Rattle.machine_core.specs.declared.equation.Equation.{Equation as EquationParts}
use Rattle.machine_core.specs.View.{equation_view}
use Rattle.boom_check.specs.Assembling.{IsSaidEquation}
use Rattle.boom_check.proofs.Lists.{zip_taken}
use Rattle.boom_check.proofs.assembling.said_equations.Goals as goal

pub loop-k-preserved : goal.loop-k-preserved
loop-k-preserved c =
    let made : EquationParts = record { name = c.in_ok-name.name; expr = c.in_ok-expr.expr } in
    subst (λ (l : List EquationParts). AllZip (IsSaidEquation c.args.numbers.now) (map equation_view (take (c.loop-k.k + 1) c.args.given.now)) (map equation_view l)) (sym c.in_ok-push.ensures.items)
    (zip_taken (IsSaidEquation c.args.numbers.now) equation_view equation_view c.args.given.now c.loop-k.made.items c.loop-k.k c.index-given-k.result made c.loop-k-test.true c.index-given-k.is
    c.loop-k.invariant (c.in_ok-name.ensures, c.in_ok-expr.ensures))
