use Rattle.std.proofs.Common.{take}
use Rattle.cell_pins.specs.Table.{IsListed, AreModels}
use Rattle.cell_pins.proofs.table.models_of.Given as goal

abbrev pub invariant-loop-cell : goal.invariant-loop-cell
invariant-loop-cell l = AreModels (IsListed l.all) (take l.cell-index l.cells) l.models.items
