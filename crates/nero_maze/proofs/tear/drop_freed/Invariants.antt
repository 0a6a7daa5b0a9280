use Rattle.std.proofs.Common.{◌≡◌}
use Rattle.nero_maze.specs.Ripping.{is_linked}
use Rattle.nero_maze.proofs.Shortening.{Sifts}
use Rattle.nero_maze.proofs.tear.drop_freed.Given as goal

abbrev pub invariant-loop-at : goal.invariant-loop-at
invariant-loop-at l = record {
  sifts : Sifts (is_linked l.room) l.fn.log l.log l.at l.count;
  held : l.log.count ≡ l.fn.log.count;
}
