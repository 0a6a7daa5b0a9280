use Rattle.std.proofs.Common.{ℕ, ◌<◌, get_or, Option}
use Rattle.cell_checks.specs.Columns.{AreOne}
use Rattle.cell_checks.proofs.columns.repeated.Given as goal

abbrev pub invariant-loop-j : goal.invariant-loop-j
invariant-loop-j l = (p q : ℕ) (d : Option ℕ) → p < q → q < l.j → AreOne (get_or l.columns p d) (get_or l.columns q d) → ⊥
