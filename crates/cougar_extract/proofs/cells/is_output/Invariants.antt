use Rattle.std.proofs.Common.{◌≡◌, false, map, take}
use Rattle.std.specs.List.{list_any}
use Rattle.cell_model.specs.declared.cell.Pin.{Pin}
use Rattle.cougar_extract.specs.Stages.{is_output_port}
use Rattle.cougar_extract.proofs.cells.is_output.Given as goal

abbrev pub invariant-loop-pin : goal.invariant-loop-pin
invariant-loop-pin l = list_any (is_output_port l.wanted) (map (λ (p : Pin). p.port) (take l.pin-index l.pins)) ≡ false
