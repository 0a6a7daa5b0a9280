use Rattle.std.proofs.Common.{◌≤◌, ◌-◌, ◌^◌, map, take, min}
use Rattle.machine_core.specs.View.{equation_view}
use Rattle.boom_check.specs.Kept.{hidden_size}
use Rattle.boom_check.proofs.weighing.hidden_weight.Given as goal

abbrev pub invariant-loop-equation : goal.invariant-loop-equation
invariant-loop-equation l = min (hidden_size l.ports (map equation_view (take l.equation-index l.equations))) (2 ^ 64 - 1) ≤ l.sum
