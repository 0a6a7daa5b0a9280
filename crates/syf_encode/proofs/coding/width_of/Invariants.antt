use Rattle.std.proofs.Common.{◌≡◌, ◌-◌, ◌≤◌}
use Rattle.fsm_machine.specs.Encoding.{width_from, width_of}
use Rattle.syf_encode.proofs.coding.width_of.Given as goal

-- the search from the present width on comes to the same
abbrev pub invariant-loop-width : goal.invariant-loop-width
invariant-loop-width l = record {
  few : l.width ≤ 8;
  same : width_from l.count l.width (l.count - l.width) ≡ width_of l.count;
}

abbrev pub decreases-loop-width : goal.decreases-loop-width
decreases-loop-width l = 8 - l.width
