use Rattle.std.proofs.Common.{◌≡◌, map, take}
use Rattle.cell_match.specs.Places.{place}
use Rattle.cell_match.proofs.nodes.places.Given as goal

abbrev pub invariant-loop-leaf : goal.invariant-loop-leaf
invariant-loop-leaf l = l.places.items ≡ map (λ x. place x l.nodes) (take l.leaf-index l.leaves)
