use Rattle.std.proofs.Common.{◌≡◌, ℕ, length, []}
use Rattle.delay_sta.specs.Graph.{numbers_of}
use Rattle.delay_sta.proofs.graph.no_numbers.Given as goal

abbrev pub invariant-loop : goal.invariant-loop
invariant-loop l = record {
  many : length l.lists.items ≡ l.counter;
  empty : (class : ℕ) → numbers_of l.lists.items class ≡ [];
}
