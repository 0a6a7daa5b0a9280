use Rattle.std.proofs.Common.{◌≡◌, map, take}
use Rattle.cell_match.specs.Places.{place_but}
use Rattle.cell_match.proofs.nodes.places_but.Given as goal

abbrev pub invariant-loop-leaf : goal.invariant-loop-leaf
invariant-loop-leaf l = l.places.items ≡ map (place_but l.a l.nodes) (take l.leaf-index l.leaves)
