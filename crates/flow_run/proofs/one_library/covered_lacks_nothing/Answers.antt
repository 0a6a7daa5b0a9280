use Rattle.flow_run.proofs.Libraries.{lacks_nothing}
use Rattle.flow_run.proofs.one_library.covered_lacks_nothing.Goals as goal

pub returns : goal.returns
returns c = lacks_nothing c.machines_are_the_same.ensures.parts c.libraries_are_same.ensures.covers
