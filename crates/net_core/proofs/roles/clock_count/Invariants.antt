use Rattle.std.proofs.Common.{◌≡◌, ◌≤◌, take}
use Rattle.net_core.specs.Checks.{all_clocks}
use Rattle.net_core.proofs.roles.clock_count.Given as goal

abbrev pub invariant-loop-role : goal.invariant-loop-role
invariant-loop-role l = record {
  counted : l.count ≡ all_clocks (take l.role-index l.roles);
  few : l.count ≤ l.role-index;
}
