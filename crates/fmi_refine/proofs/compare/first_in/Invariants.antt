use Rattle.std.proofs.Common.{ℕ, ◌<◌}
use Rattle.fmi_refine.specs.Rows.{AreAlike, move_in}
use Rattle.fmi_refine.proofs.compare.first_in.Given as goal

-- the moves so far are alike
abbrev pub invariant-loop-v : goal.invariant-loop-v
invariant-loop-v l = (u : ℕ) → u < l.v → AreAlike l.classes (move_in l.first u) (move_in l.second u)
