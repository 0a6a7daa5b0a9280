use Rattle.graph_theory.proofs.Values.{plain_is_cut}
use Rattle.graph_theory.proofs.laws.plain_is_cut.Goals as goal

pub returns : goal.returns
returns c = plain_is_cut
