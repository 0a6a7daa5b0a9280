use Rattle.std.proofs.Common.{◌≤◌, ℕ, length}
use Rattle.fmi_refine.proofs.witnesses.hint_between.Given as goal

abbrev pub invariant-loop-level : goal.invariant-loop-level
invariant-loop-level l = l.level ≤ length l.levels

abbrev pub decreases-loop-level : goal.decreases-loop-level
decreases-loop-level l = l.level
