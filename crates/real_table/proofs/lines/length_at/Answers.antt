use Rattle.std.proofs.Common.{ℕ, List, sym, subst}
use Rattle.real_table.specs.declared.table.TheConstants.{MOST_LENGTH}
use Rattle.real_table.specs.Fields.{IsSignedIn}
use Rattle.real_table.proofs.lines.length_at.Goals as goal

pub returns-clause-none : goal.returns-clause-none
returns-clause-none c = λ e n h. c.signed_in.ensures.none e n (subst (λ (t : List ℕ). IsSignedIn MOST_LENGTH t n) (sym c.field.ensures) h)
