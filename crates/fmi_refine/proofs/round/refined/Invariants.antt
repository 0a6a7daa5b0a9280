use Rattle.fmi_refine.specs.Refined.{IsRefined}
use Rattle.fmi_refine.proofs.round.refined.Given as goal

-- the states so far
abbrev pub invariant-loop-s : goal.invariant-loop-s
invariant-loop-s l = IsRefined l.rows l.classes l.s l.state_of.items l.kept.items
