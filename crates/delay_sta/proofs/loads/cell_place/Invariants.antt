use Rattle.std.proofs.Common.{◌≡◌, drop}
use Rattle.cell_model.specs.Library.{cell_named}
use Rattle.delay_sta.proofs.loads.cell_place.Given as goal

abbrev pub invariant-loop-place : goal.invariant-loop-place
invariant-loop-place l = cell_named (drop l.place l.cells) l.model ≡ cell_named l.cells l.model
