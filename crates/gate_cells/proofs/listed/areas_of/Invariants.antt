use Rattle.std.proofs.Common.{◌≡◌, ◌++◌, map, drop}
use Rattle.gate_cells.proofs.listed.areas_of.Given as goal

abbrev pub invariant-loop-entry : goal.invariant-loop-entry
invariant-loop-entry l = l.areas.items ++ map (λ x. x.area) (drop l.entry-index l.entries) ≡ map (λ x. x.area) l.entries
