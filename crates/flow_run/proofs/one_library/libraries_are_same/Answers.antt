use Rattle.flow_run.proofs.Libraries.{libraries_same, cover_same}
use Rattle.flow_run.proofs.one_library.libraries_are_same.Goals as goal

pub returns-clause-cells : goal.returns-clause-cells
returns-clause-cells c = libraries_same c.texts_are_same.ensures

pub returns-clause-covers : goal.returns-clause-covers
returns-clause-covers c = cover_same c.texts_are_same.ensures
