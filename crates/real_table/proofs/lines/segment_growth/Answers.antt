use Rattle.std.proofs.Common.{refl}
use Rattle.real_table.proofs.lines.segment_growth.Goals as goal

pub returns-in_default-clause-none : goal.returns-in_default-clause-none
returns-in_default-clause-none c = λ e g h. c.in_default.ensures.none refl g.along h.along

pub returns-in_default-length_at-clause-none : goal.returns-in_default-length_at-clause-none
returns-in_default-length_at-clause-none c = λ e g h. c.in_default-length_at.ensures.none refl g.across h.across

pub returns-in_default-read_move-clause-none : goal.returns-in_default-read_move-clause-none
returns-in_default-read_move-clause-none c = λ e g h. c.in_default-read_move.ensures.none refl g.x g.y h.move
