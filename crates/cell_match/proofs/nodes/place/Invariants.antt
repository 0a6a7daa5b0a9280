use Rattle.std.proofs.Common.{◌≡◌, ◌+◌, drop}
use Rattle.cell_match.specs.Places.{place}
use Rattle.cell_match.proofs.nodes.place.Given as goal

abbrev pub invariant-loop-i : goal.invariant-loop-i
invariant-loop-i l = place l.node l.nodes ≡ l.i + place l.node (drop l.i l.nodes)
