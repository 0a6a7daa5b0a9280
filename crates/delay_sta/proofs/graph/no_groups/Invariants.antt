use Rattle.std.proofs.Common.{◌≡◌, ℕ, ◌<◌, length, []}
use Rattle.delay_sta.specs.Graph.{group_of}
use Rattle.delay_sta.proofs.graph.no_groups.Given as goal

abbrev pub invariant-loop : goal.invariant-loop
invariant-loop l = record {
  many : length l.groups.items ≡ l.counter;
  empty : (class : ℕ) → class < length l.groups.items → group_of l.groups.items class ≡ [];
}
