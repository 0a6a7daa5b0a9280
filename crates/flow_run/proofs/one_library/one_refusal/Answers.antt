use Rattle.flow_run.proofs.OneRefusal.{cell_has_one_refusal, library_has_one_refusal}
use Rattle.flow_run.proofs.one_library.one_refusal.Goals as goal

pub returns-clause-cell : goal.returns-clause-cell
returns-clause-cell c = cell_has_one_refusal c.texts_are_same.ensures

pub returns-clause-library : goal.returns-clause-library
returns-clause-library c = library_has_one_refusal c.texts_are_same.ensures
