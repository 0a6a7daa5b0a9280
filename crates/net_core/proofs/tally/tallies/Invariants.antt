use Rattle.std.proofs.Common.{◌≡◌, length, take}
use Rattle.std.specs.List.{zip}
use Rattle.net_core.specs.Checks.{AreTallies}
use Rattle.net_core.proofs.tally.tallies.Given as goal

abbrev pub invariant-loop-k : goal.invariant-loop-k
invariant-loop-k l = record {
  many : length l.tallies.items ≡ l.count;
  tallied : AreTallies (take l.k (zip l.roles l.classes)) l.tallies.items;
}
