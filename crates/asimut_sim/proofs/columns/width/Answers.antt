use Rattle.std.proofs.Common.{sym, ◌∙◌}
use Rattle.asimut_sim.proofs.ColumnLemmas.{length-column}
use Rattle.asimut_sim.proofs.columns.width.Goals as goal

pub returns-in-Some : goal.returns-in-Some
returns-in-Some c = c.bits_of.ensures ∙ sym (length-column c.args.column.now _ c.in-Some.is)
