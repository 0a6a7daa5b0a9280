use Rattle.bdd_core.proofs.Answering.{constant_at}
use Rattle.bdd_core.proofs.diagrams.Diagrams.constant.Goals as goal

pub returns : goal.returns
returns c =
    constant_at c.self.inside.table c.self.inside.refused c.args.self.now c.self.view_is c.constant-place.result c.args.bit c.again.result
    c.constant-place.ensures.place c.again.ensures
