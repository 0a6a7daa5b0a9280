use Rattle.net_core.proofs.Changing.{reserves}
use Rattle.net_core.proofs.frame.Frame.reserve_models.Goals as goal

pub returns-clause-reserved : goal.returns-clause-reserved
returns-clause-reserved c = reserves c.self.invariant c.args.self.now c.self.view_is c.in_ok-models.models c.args.names.now c.in_ok-models.ensures.grown c.in_ok-models.ensures.there c.in_ok-models.ensures.only
