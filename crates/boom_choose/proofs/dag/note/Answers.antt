use Rattle.std.proofs.Common.{List, subst, sym}
use Rattle.bdd_core.specs.declared.node.NodeId.{NodeId}
use Rattle.boom_choose.specs.Dag.{Notes}
use Rattle.boom_choose.proofs.Same.{noted}
use Rattle.boom_choose.proofs.dag.note.Goals as goal

pub returns-in-Ok : goal.returns-in-Ok
returns-in-Ok c = subst (λ (k : List NodeId). Notes c.args.at c.args.seen.now.keys k) (sym c.in-Ok.ensures.keys) (noted c.args.at c.args.seen.now.keys)
