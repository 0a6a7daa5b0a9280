use Rattle.flow_run.proofs.Refusals.{said_never_unsaid, cell_never_refused}
use Rattle.flow_run.proofs.one_library.cell_is_never_refused.Goals as goal

pub returns-clause-said : goal.returns-clause-said
returns-clause-said c = said_never_unsaid

pub returns-clause-cell : goal.returns-clause-cell
returns-clause-cell c = cell_never_refused c.texts_are_same.ensures
