use Rattle.std.proofs.Common.{map, []}
use Rattle.net_core.proofs.Learning.{AreLearned}
use Rattle.net_core.proofs.roles.model_names.Given as goal

abbrev pub invariant-loop-model : goal.invariant-loop-model
invariant-loop-model l = AreLearned [] l.names (map (λ m. m.model) l.table) l.model-index
