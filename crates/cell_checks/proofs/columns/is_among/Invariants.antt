use Rattle.std.proofs.Common.{ℕ, ◌<◌, get_or, Option}
use Rattle.cell_checks.specs.Columns.{AreOne}
use Rattle.cell_checks.proofs.columns.is_among.Given as goal

abbrev pub invariant-loop-other : goal.invariant-loop-other
invariant-loop-other l = (k : ℕ) (d : Option ℕ) → k < l.other-index → AreOne (get_or l.columns k d) l.column → ⊥
