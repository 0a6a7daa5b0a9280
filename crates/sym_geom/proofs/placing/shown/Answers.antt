use Rattle.std.proofs.Common.{arith}
use Rattle.std.proofs.lemmas.Int.{ints}
use Rattle.sym_geom.proofs.placing.shown.Goals as goal

pub returns-then-turned-clause-low : goal.returns-then-turned-clause-low
returns-then-turned-clause-low c = rw c.if-turned.true (omega (arith, ints))

pub returns-then-turned-clause-high : goal.returns-then-turned-clause-high
returns-then-turned-clause-high c = rw c.if-turned.true (omega (arith, ints))
