use Rattle.std.proofs.Common.{refl, arith}
use Rattle.std.proofs.lemmas.Int.{ints}
use Rattle.cell_checks.proofs.shapes.is_inside.Goals as goal

pub returns : goal.returns
returns c =
    (λ h. record { left = omega (arith, ints); right = omega (arith, ints); low = omega (arith, ints); high = omega (arith, ints) }, λ i. refl)
