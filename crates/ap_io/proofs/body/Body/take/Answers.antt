use Rattle.std.proofs.Common.{sym, ◌∙◌}
use Rattle.ap_io.specs.LineFaults.{letter_of}
use Rattle.ap_io.proofs.Parts.{free_name, not_blank}
use Rattle.ap_io.proofs.body.Body.take.Goals as goal

pub put-requires : goal.put-requires
put-requires c =
    let line = c.args.line.now in
    let taken = c.in_ok-taken.taken in
    free_name taken (letter_of line) c.args.scale line (not_blank taken c.args.scale line (sym c.is_blank_line.ensures ∙ c.if-is_blank_line.false) (sym c.item_fault.ensures ∙ c.in_default.is))
