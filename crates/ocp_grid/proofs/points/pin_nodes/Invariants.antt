use Rattle.std.proofs.Common.{◌≡◌, map, take}
use Rattle.ocp_place.specs.Reaches.{site_of}
use Rattle.ocp_grid.specs.Sites.{point_node}
use Rattle.ocp_grid.proofs.points.pin_nodes.Given as goal

abbrev pub invariant-loop-pin : goal.invariant-loop-pin
invariant-loop-pin l = l.nodes.items ≡ map (λ s. point_node 2 (site_of s).1) (take l.pin-index l.pins)
