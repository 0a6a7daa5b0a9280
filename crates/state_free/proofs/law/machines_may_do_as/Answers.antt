use Rattle.state_free.proofs.Doing.{machines_may_do_as}
use Rattle.state_free.proofs.law.machines_may_do_as.Goals as goal

pub returns : goal.returns
returns c = machines_may_do_as c.texts_are_free.ensures.free c.assigned_is_known.ensures
