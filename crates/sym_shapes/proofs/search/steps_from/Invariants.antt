use Rattle.std.proofs.Common.{◌≡◌, ℕ, ◌<◌, ◌≤◌, ◌-◌, length}
use Rattle.sym_shapes.specs.Search.{step, IsSearch, Spread}
use Rattle.sym_shapes.proofs.search.steps_from.Given as goal

abbrev pub invariant-loop-at : goal.invariant-loop-at
invariant-loop-at l = record {
  places : length l.search.seen.items ≡ l.count;
  goal : (step l.search.steps.items 0).place ≡ l.goal;
  search : IsSearch l.links l.search.steps.items l.search.seen.items;
  low : l.at ≤ length l.search.steps.items;
  spread : (k : ℕ) → k < l.at → Spread l.links l.search.seen.items (step l.search.steps.items k).place;
}

abbrev pub decreases-loop-at : goal.decreases-loop-at
decreases-loop-at l = l.count - l.at
