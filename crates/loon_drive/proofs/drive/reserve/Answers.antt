use Rattle.std.proofs.Common.{map, ap, ◌∙◌}
use Rattle.cell_model.specs.Cell.{Cell}
use Rattle.cell_model.specs.Library.{Library}
use Rattle.loon_drive.proofs.Reserving.{has_drives}
use Rattle.loon_drive.proofs.drive.reserve.Goals as goal

pub returns-clause-drives : goal.returns-clause-drives
returns-clause-drives c =
    has_drives c.reserve_models.result c.args.library.now c.args.netlist.now c.reserve_models.new.self c.new-names.result
    (c.new-names.ensures ∙ c.in_ok-cell_names.ensures ∙ ap (λ (l : Library). map (λ (x : Cell). x.name) l.cells) c.cells.ensures.value) c.reserve_models.ensures.reserved
