use Rattle.std.proofs.Common.{◌≡◌, ◌++◌, map, drop}
use Rattle.gate_cells.proofs.listed.places_of.Given as goal

abbrev pub invariant-loop-entry : goal.invariant-loop-entry
invariant-loop-entry l = l.places.items ++ map (λ x. x.place) (drop l.entry-index l.entries) ≡ map (λ x. x.place) l.entries
