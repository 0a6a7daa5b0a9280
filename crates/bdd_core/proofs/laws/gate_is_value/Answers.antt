use Rattle.bool_expr.specs.declared.expr.Gate.{Gate}
use Rattle.std.proofs.Common.{ℕ, List, Bool}
use Rattle.bdd_core.specs.declared.operators.Operator.TheVariants.{Pair}
use Rattle.bdd_core.proofs.Meaning.{combined_is}
use Rattle.bdd_core.proofs.laws.gate_is_value.Goals as goal

pub returns : goal.returns
returns c = λ (n : ℕ) (g : Gate) (f h : List Bool → Bool). combined_is (Pair g) n f h f
