use Rattle.std.proofs.Common.{take}
use Rattle.std.specs.List.{All}
use Rattle.machine_core.specs.Machine.{outputs}
use Rattle.boom_choose.specs.Choice.{IsOverBoth}
use Rattle.boom_choose.proofs.budget.check_budget.Given as goal

abbrev pub invariant-loop-root : goal.invariant-loop-root
invariant-loop-root l = All (λ n. IsOverBoth l.m.low l.m.high l.budget n → ⊥) (take l.root-index (outputs l.m.low))
