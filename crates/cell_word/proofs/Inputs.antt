-- How many inputs a gate has.
use Rattle.std.proofs.Common.{◌≡◌, ℕ, ◌≤◌, subst, arith}
use Rattle.bool_expr.specs.Expression.{Expression}
use Rattle.cell_model.specs.Cell.{Cell}
use Rattle.cell_model.specs.Function.{gate}
use Rattle.cell_model.specs.Usable.{FitsPins}
use Rattle.cell_model.proofs.KindLemmas.{inputs_among, inputs_counted}

pub gate_few : (c : Cell) (e : Expression) (n : ℕ) → n ≡ inputs_among c.pins → c.function ≡ gate e → FitsPins c c.function → n ≤ 6
gate_few c e n h is fits =
    let f : FitsPins c (gate e) = subst (FitsPins c) is fits in
    let count = inputs_counted c n h in
    let few = f.1 in
    omega (arith, count, few)
