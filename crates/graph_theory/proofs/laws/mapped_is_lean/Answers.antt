use Rattle.graph_theory.proofs.Ordered.{mapped_is_lean}
use Rattle.graph_theory.proofs.laws.mapped_is_lean.Goals as goal

pub returns : goal.returns
returns c = λ n l m g small maps. mapped_is_lean n l m g maps small
