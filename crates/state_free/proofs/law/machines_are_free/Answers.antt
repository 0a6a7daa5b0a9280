use Rattle.state_free.proofs.Machines.{machines_are_free}
use Rattle.state_free.proofs.law.machines_are_free.Goals as goal

pub returns : goal.returns
returns c = machines_are_free c.texts_are_free.ensures.free
