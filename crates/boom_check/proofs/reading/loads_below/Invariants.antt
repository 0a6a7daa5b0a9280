use Rattle.std.proofs.Common.{take}
use Rattle.std.specs.List.{All}
use Rattle.bool_expr.specs.Expression.{IsOver}
use Rattle.bool_expr.specs.View.{view}
use Rattle.boom_check.proofs.reading.loads_below.Given as goal

abbrev pub invariant-loop-register : goal.invariant-loop-register
invariant-loop-register l = All (λ r. IsOver (view r.next) l.total × IsOver (view r.enable) l.total) (take l.register-index l.registers)
