use Rattle.std.proofs.Common.{List, [], ◌∷◌, sym, subst}
use Rattle.bdd_core.specs.declared.node.NodeId.{NodeId}
use Rattle.bdd_core.specs.Truths.{IsCountOf}
use Rattle.bdd_core.specs.Diagram.{function_of}
use Rattle.boom_choose.specs.Dag.{AreSeen, HasSeen}
use Rattle.boom_choose.proofs.Seeing.{none_seen, counted}
use Rattle.boom_choose.proofs.dag.dag_nodes.Goals as goal

pub visit-requires-clause-seen : goal.visit-requires-clause-seen
visit-requires-clause-seen c = subst (AreSeen c.args.diagrams.now) (sym c.new-seen.ensures.empty) (none_seen c.args.diagrams.now)

pub returns : goal.returns
returns c =
    let seen : HasSeen c.args.diagrams.now c.args.at [] c.visit.new.seen.keys =
    subst (λ (k : List NodeId). HasSeen c.args.diagrams.now c.args.at k c.visit.new.seen.keys) c.new-seen.ensures.empty c.in_ok-visit.ensures in
    subst (IsCountOf (function_of c.args.diagrams.now c.args.at ∷ [])) (sym c.len.ensures.len)
    (counted c.args.diagrams.now c.nodes-whole.ensures.whole c.args.at c.visit.new.seen.keys seen)
