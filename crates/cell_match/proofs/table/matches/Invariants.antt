use Rattle.std.proofs.Common.{nat_eq}
use Rattle.std.specs.HashMap.{get}
use Rattle.cell_match.proofs.Filling.{FilledTo}
use Rattle.cell_match.proofs.table.matches.Given as goal

abbrev pub invariant-loop-k : goal.invariant-loop-k
invariant-loop-k l = FilledTo l.cells l.inputs l.k (λ w. get nat_eq l.map w)
