use Rattle.std.proofs.Common.{refl, arith}
use Rattle.std.proofs.lemmas.Int.{ints}
use Rattle.sym_near.proofs.near.is_within.Goals as goal

pub returns : goal.returns
returns c = (λ h. record { left = omega (arith, ints); right = omega (arith, ints); low = omega (arith, ints); high = omega (arith, ints) }, λ h. refl)
