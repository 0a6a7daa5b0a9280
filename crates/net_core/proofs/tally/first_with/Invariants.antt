use Rattle.std.proofs.Common.{◌≡◌, false, take}
use Rattle.std.specs.List.{All}
use Rattle.net_core.specs.Checks.{has_fault}
use Rattle.net_core.proofs.tally.first_with.Given as goal

abbrev pub invariant-loop-k : goal.invariant-loop-k
invariant-loop-k l = All (λ t. has_fault l.fault l.clocks t ≡ false) (take l.k l.tallies)
