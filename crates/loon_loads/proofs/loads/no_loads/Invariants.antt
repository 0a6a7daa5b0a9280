use Rattle.std.proofs.Common.{[]}
use Rattle.loon_loads.specs.Loads.{AreLoads}
use Rattle.loon_loads.proofs.loads.no_loads.Given as goal

abbrev pub invariant-loop : goal.invariant-loop
invariant-loop l = AreLoads [] [] l.counter l.loads.items
