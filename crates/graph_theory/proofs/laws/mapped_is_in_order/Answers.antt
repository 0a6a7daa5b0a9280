use Rattle.std.proofs.Common.{length, refl}
use Rattle.graph_theory.proofs.Ordered.{names, mapped_after}
use Rattle.graph_theory.proofs.laws.mapped_is_in_order.Goals as goal

pub returns : goal.returns
returns c = λ n l m g maps. record { gates = length maps.gates; names = names n l m g maps; after = mapped_after n l m g maps }
