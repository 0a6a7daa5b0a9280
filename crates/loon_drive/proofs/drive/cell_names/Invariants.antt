use Rattle.std.proofs.Common.{◌≡◌, ◌++◌, drop, map}
use Rattle.loon_drive.proofs.drive.cell_names.Given as goal

abbrev pub invariant-loop-cell : goal.invariant-loop-cell
invariant-loop-cell l = l.names.items ++ map (λ c. c.name) (drop l.cell-index l.cells) ≡ map (λ c. c.name) l.cells
