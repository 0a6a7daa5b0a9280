use Rattle.std.proofs.Common.{length, ◌-◌}
use Rattle.fmi_refine.specs.Refined.{AreLevels, last_level}
use Rattle.fmi_refine.proofs.refining.levels.Given as goal

abbrev pub invariant-loop-levels : goal.invariant-loop-levels
invariant-loop-levels l = AreLevels l.rows l.levels.items

-- each round has more classes, and there are no more of them than states
abbrev pub decreases-loop-levels : goal.decreases-loop-levels
decreases-loop-levels l = length l.rows - length (last_level l.levels.items).kept
