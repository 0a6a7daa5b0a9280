use Rattle.net_theory.proofs.Well.{is_well}
use Rattle.net_theory.proofs.Behave.{agrees}
use Rattle.graph_theory.specs.Graph.{graph_values, graph_roots}
use Rattle.graph_theory.proofs.Shown.{mapped_shows}
use Rattle.graph_theory.proofs.Values.{graph_means}
use Rattle.graph_theory.proofs.laws.mapped_is_right.Goals as goal

pub returns : goal.returns
returns c = λ n l m g checked of_m apart maps.
    let shows = mapped_shows n l m g apart maps in (
      is_well n l m (graph_values g) (graph_roots g) checked shows,
      agrees n l m (graph_values g) (graph_roots g) checked shows (graph_means m g of_m),
    )
