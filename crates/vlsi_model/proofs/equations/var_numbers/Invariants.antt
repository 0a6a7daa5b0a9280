use Rattle.source_checks.specs.Symbols.{all_names}
use Rattle.vlsi_model.proofs.Naming.{VarsSoFar}
use Rattle.vlsi_model.proofs.equations.var_numbers.Given as goal

abbrev pub invariant-loop-k : goal.invariant-loop-k
invariant-loop-k l = VarsSoFar (all_names l.numbers) l.vars l.table.items l.k
