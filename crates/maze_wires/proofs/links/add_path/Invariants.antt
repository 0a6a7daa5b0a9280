use Rattle.std.proofs.Common.{◌≡◌, ◌++◌, drop}
use Rattle.std.specs.List.{All}
use Rattle.maze_wires.specs.Links.{IsShort, links_from}
use Rattle.maze_wires.proofs.links.add_path.Given as goal

abbrev pub invariant-loop-node : goal.invariant-loop-node
invariant-loop-node l = record {
  is : l.found.items ++ links_from l.next l.last (drop l.node-index l.rest) ≡ l.initial.found.items ++ links_from l.next l.initial.last l.rest;
  short : All (IsShort l.next) l.found.items;
}
