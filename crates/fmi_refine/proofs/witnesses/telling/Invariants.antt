use Rattle.std.proofs.Common.{◌≡◌, ◌<◌, ◌+◌, length}
use Rattle.fsm_merge.specs.Numbering.{nth}
use Rattle.fmi_refine.specs.Refined.{level}
use Rattle.fmi_refine.proofs.Leading.{Leads}
use Rattle.fmi_refine.proofs.witnesses.telling.Given as goal

-- the vectors so far lead to two states that this round tells apart
abbrev pub invariant-loop-level : goal.invariant-loop-level
invariant-loop-level l = record {
  first : l.first < length l.by.rows.now;
  second : l.second < length l.by.rows.now;
  low : l.level < length l.by.levels.now;
  apart : nth (level l.by.levels.now l.level).state_of l.first ≡ nth (level l.by.levels.now l.level).state_of l.second → ⊥;
  leads : Leads l.by.rows.now l.s l.t l.made.items l.first l.second;
  few : length l.made.items + l.level < length l.by.levels.now;
}

abbrev pub decreases-loop-level : goal.decreases-loop-level
decreases-loop-level l = l.level
