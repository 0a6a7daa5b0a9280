use Rattle.cell_checks.specs.Shapes.{AreApart}
use Rattle.cell_checks.proofs.Loops.{FirstHave}
use Rattle.cell_checks.proofs.joined.is_apart_from.Given as goal

abbrev pub invariant-loop-other : goal.invariant-loop-other
invariant-loop-other l = FirstHave (λ m. AreApart l.shapes m l.name) l.names l.other-index
