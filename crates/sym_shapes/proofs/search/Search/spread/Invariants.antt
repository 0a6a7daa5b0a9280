use Rattle.std.proofs.Common.{length, ◌-◌}
use Rattle.sym_shapes.specs.Search.{IsSearch, GoesOn}
use Rattle.sym_shapes.proofs.Searches.{Spreading}
use Rattle.sym_shapes.proofs.search.Search.spread.Given as goal

abbrev pub invariant-loop-k : goal.invariant-loop-k
invariant-loop-k l = record {
  on : GoesOn l.initial.self.steps.items l.self.steps.items l.initial.self.seen.items l.self.seen.items;
  search : IsSearch l.links l.self.steps.items l.self.seen.items;
  spreading : Spreading l.links l.self.seen.items l.place l.k;
}

abbrev pub decreases-loop-k : goal.decreases-loop-k
decreases-loop-k l = length l.links - l.k
