use Rattle.std.proofs.Common.{refl}
use Rattle.real_table.proofs.lines.contact_rule.Goals as goal

pub returns-in_default-clause-none : goal.returns-in_default-clause-none
returns-in_default-clause-none c = λ e r h. c.in_default.ensures.none refl r.growth h.growth
