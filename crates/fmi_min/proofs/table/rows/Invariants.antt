use Rattle.std.proofs.Common.{◌≡◌, length}
use Rattle.fmi_min.proofs.Meeting.{AreMade}
use Rattle.fmi_min.proofs.table.rows.Given as goal

-- the rows so far
abbrev pub invariant-loop-state : goal.invariant-loop-state
invariant-loop-state l = record {
  each : length l.rows.items ≡ l.state;
  made : AreMade l.machine l.met l.rows.items;
}
