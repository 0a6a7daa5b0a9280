use Rattle.graph_theory.proofs.Shown.{mapped_shows}
use Rattle.graph_theory.proofs.Values.{graph_means}
use Rattle.graph_theory.proofs.laws.mapped_shows.Goals as goal

pub returns : goal.returns
returns c = λ n l m g checked of_m apart maps. (mapped_shows n l m g apart maps, graph_means m g of_m)
