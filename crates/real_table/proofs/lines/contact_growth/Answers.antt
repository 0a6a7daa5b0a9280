use Rattle.std.proofs.Common.{refl}
use Rattle.real_table.proofs.lines.contact_growth.Goals as goal

pub returns-in_default-read_move-clause-none : goal.returns-in_default-read_move-clause-none
returns-in_default-read_move-clause-none c = λ e g h. c.in_default-read_move.ensures.none refl g.x g.y h.move
