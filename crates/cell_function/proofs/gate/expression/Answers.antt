use Rattle.std.proofs.Common.{◌≡◌, IfOk, rules, [], length, map, sym, ap, ◌∙◌, subst}
use Rattle.bool_expr.specs.Expression.{Expression}
use Rattle.bool_expr.specs.View.{view}
use Rattle.machine_core.specs.View.{equation_view}
use Rattle.machine_core.specs.Machine.{inputs}
use Rattle.cell_function.specs.Row.{row, HasRows}
use Rattle.cell_function.proofs.Values.{in_ok, copied_rows}
use Rattle.cell_function.proofs.gate.expression.Goals as goal

pub returns-then-equations-eq1-clause-rows : goal.returns-then-equations-eq1-clause-rows
returns-then-equations-eq1-clause-rows c =
    let m = c.args.machine.now in
    let rows =
    copied_rows m c.args.output.now c.as_slice-equations.result.now c.index-equations-0.result c.equations.ensures.checked c.requires
    (ap (map equation_view) c.as_slice-equations.ensures ∙ c.equations.ensures.value) c.if-equations-eq1.true c.index-equations-0.is in
    let made : IfOk c.copy.result (λ made. view made ≡ view c.index-equations-0.result.expr) = search rules in
    in_ok (λ made same. subst (λ (e : Expression). HasRows (row m c.args.output.now) [] (length (inputs m)) e) (sym same) rows.0) c.copy.result made
