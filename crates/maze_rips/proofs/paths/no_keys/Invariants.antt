use Rattle.maze_rips.specs.Paths.{HaveNone}
use Rattle.maze_rips.proofs.paths.no_keys.Given as goal

abbrev pub invariant-loop : goal.invariant-loop
invariant-loop l = HaveNone l.counter l.keys.items
