use Rattle.std.proofs.Common.{◌≡◌, map, take}
use Rattle.maze_probe.specs.Spots.{terminal_at}
use Rattle.maze_probe.proofs.nets.net_on.Given as goal

abbrev pub invariant-loop-place : goal.invariant-loop-place
invariant-loop-place l = l.terminals.items ≡ map (terminal_at l.columns) (take l.place-index l.places)
