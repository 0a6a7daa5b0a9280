use Rattle.std.proofs.Common.{◌≡◌, ◌++◌, map, filter, drop}
use Rattle.cell_model.specs.Access.{is_named}
use Rattle.cell_model.specs.Connectors.{connector_rects}
use Rattle.cell_model.proofs.rects.pin_rects.Given as goal

abbrev pub invariant-loop-shape : goal.invariant-loop-shape
invariant-loop-shape l =
    l.rects.items ++ map (λ s. s.rect) (filter (λ s. is_named l.pin s.name) (drop l.shape-index l.shape-items)) ≡ connector_rects l.cell l.pin
