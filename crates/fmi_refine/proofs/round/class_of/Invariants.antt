use Rattle.std.proofs.Common.{ℕ, ◌<◌}
use Rattle.fsm_merge.specs.Numbering.{nth}
use Rattle.fmi_refine.specs.Rows.{AreSame}
use Rattle.fmi_refine.proofs.round.class_of.Given as goal

-- none so far is the same
abbrev pub invariant-loop-k : goal.invariant-loop-k
invariant-loop-k l = (j : ℕ) → j < l.k → AreSame l.rows l.classes (nth l.kept j) l.s → ⊥
