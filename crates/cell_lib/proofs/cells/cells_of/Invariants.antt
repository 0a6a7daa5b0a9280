use Rattle.std.proofs.Common.{drop}
use Rattle.cell_lib.specs.Cells.{sources}
use Rattle.cell_lib.specs.Library.{IsCell}
use Rattle.cell_lib.proofs.Making.{HasMade}
use Rattle.cell_lib.proofs.cells.cells_of.Given as goal

abbrev pub invariant-loop-name : goal.invariant-loop-name
invariant-loop-name l = HasMade (IsCell l.tracks) (sources l.names l.files) (sources (drop l.name-index l.names) l.rest) l.cells.items
