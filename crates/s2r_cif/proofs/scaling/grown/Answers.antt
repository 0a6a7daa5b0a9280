use Rattle.std.proofs.Common.{arith}
use Rattle.std.proofs.lemmas.Int.{ints}
use Rattle.s2r_cif.proofs.scaling.grown.Goals as goal

pub returns-clause-low_fits : goal.returns-clause-low_fits
returns-clause-low_fits c = record { low = omega (arith, ints); high = omega (arith, ints) }

pub returns-clause-high_fits : goal.returns-clause-high_fits
returns-clause-high_fits c = record { low = omega (arith, ints); high = omega (arith, ints) }
