use Rattle.std.proofs.Common.{◌≡◌, ◌++◌, drop}
use Rattle.fsm_merge.specs.Merged.{kept_of}
use Rattle.fsm_merge.proofs.merger.Merger.kept_of.Given as goal

-- what was made, and what is made of the states that are left
abbrev pub invariant-loop-state : goal.invariant-loop-state
invariant-loop-state l =
    l.made.items ++ kept_of l.self.numbering.state_of.now l.self.numbering.kept.now (drop l.state-index l.states)
    ≡ kept_of l.self.numbering.state_of.now l.self.numbering.kept.now l.states
