use Rattle.cell_checks.specs.Shapes.{IsNoConnector}
use Rattle.cell_checks.proofs.Loops.{FirstHave}
use Rattle.cell_checks.proofs.joined.number_of.Given as goal

abbrev pub invariant-loop-i : goal.invariant-loop-i
invariant-loop-i l = FirstHave (IsNoConnector l.name) l.shapes l.i
