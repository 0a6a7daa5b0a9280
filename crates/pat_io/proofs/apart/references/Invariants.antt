use Rattle.std.proofs.Common.{◌≡◌, map, take}
use Rattle.pat_io.proofs.apart.references.Given as goal

abbrev pub invariant-loop-column : goal.invariant-loop-column
invariant-loop-column l = map (λ c. c.now) l.found.items ≡ take l.column-index l.columns
