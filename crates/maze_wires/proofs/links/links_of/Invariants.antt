use Rattle.std.proofs.Common.{◌≡◌, take}
use Rattle.std.specs.Prelude.{flat_map}
use Rattle.std.specs.List.{All}
use Rattle.maze_wires.specs.Links.{IsShort, links}
use Rattle.maze_wires.proofs.links.links_of.Given as goal

abbrev pub invariant-loop-path : goal.invariant-loop-path
invariant-loop-path l = record {
  is : l.found.items ≡ flat_map (λ path. links l.next path.items) (take l.path-index l.tree.paths.items);
  short : All (IsShort l.next) l.found.items;
}
