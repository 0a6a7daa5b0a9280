use Rattle.ocp_run.proofs.Reading.{can_be_placed, source_is_named}
use Rattle.ocp_run.proofs.laws.source_law.Goals as goal

pub returns-clause-placed : goal.returns-clause-placed
returns-clause-placed c = can_be_placed c.library_law.ensures.passes

pub returns-clause-named : goal.returns-clause-named
returns-clause-named c = source_is_named c.library_law.ensures.passes c.catal_is_named.ensures c.netlist_words_law.ensures.named
