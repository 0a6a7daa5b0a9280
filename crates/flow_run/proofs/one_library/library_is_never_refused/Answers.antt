use Rattle.flow_run.proofs.Refusals.{library_never_refused}
use Rattle.flow_run.proofs.one_library.library_is_never_refused.Goals as goal

pub returns : goal.returns
returns c = library_never_refused c.texts_are_same.ensures
