use Rattle.std.proofs.Common.{◌≡◌, map, take}
use Rattle.cell_model.specs.Library.{cell_named}
use Rattle.net_flat.specs.Parts.{part_at}
use Rattle.net_flat.proofs.parts.parts.Given as goal

abbrev pub invariant-loop-model : goal.invariant-loop-model
invariant-loop-model l = l.parts.items ≡ map (λ m. part_at (cell_named l.cells m)) (take l.model-index l.models)
