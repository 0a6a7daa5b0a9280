use Rattle.std.proofs.Common.{sym, ◌∙◌}
use Rattle.ap_io.proofs.Parts.{box_near}
use Rattle.ap_io.proofs.reader.bounds.Goals as goal

pub bounds-requires : goal.bounds-requires
bounds-requires c = rw c.fields_behind.ensures (box_near c.args.scale c.without_return-line.result.now (sym c.box_line_fault.ensures ∙ c.in-None.is))
