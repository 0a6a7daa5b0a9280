use Rattle.std.proofs.Common.{◌∙◌, refl}
use Rattle.real_table.proofs.Entries.{no_move_x, no_move_y}
use Rattle.real_table.proofs.lines.read_move.Goals as goal

pub returns-in_default-clause-none : goal.returns-in_default-clause-none
returns-in_default-clause-none c = λ e x y h.
    no_move_x c.args.line.now c.args.number (λ same. c.if-count-number.false (c.field_count-count.ensures ∙ same)) (c.in_default.ensures.none refl) x y h

pub returns-in_default-length_at-clause-none : goal.returns-in_default-length_at-clause-none
returns-in_default-length_at-clause-none c = λ e x y h.
    no_move_y c.args.line.now c.args.number _ refl (λ same. c.if-count-number.false (c.field_count-count.ensures ∙ same)) (c.in_default-length_at.ensures.none refl) x y h
