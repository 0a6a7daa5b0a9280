use Rattle.std.proofs.Common.{ℕ, ◌<◌, get_or}
use Rattle.vlsi_base.specs.declared.name.Name.{Name}
use Rattle.cell_checks.specs.Shapes.{AreApart}
use Rattle.cell_checks.proofs.joined.are_apart.Given as goal

abbrev pub invariant-loop-i : goal.invariant-loop-i
invariant-loop-i l = (p q : ℕ) (d : Name) → p < q → q < l.i → AreApart l.shapes (get_or l.names p d) (get_or l.names q d)
