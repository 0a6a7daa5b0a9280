use Rattle.std.proofs.Common.{◌≡◌, ◌+◌, ◌-◌, ◌^◌, min, take}
use Rattle.std.specs.List.{sum_by}
use Rattle.bool_expr.specs.Expression.{size_of}
use Rattle.bool_expr.specs.View.{view}
use Rattle.boom_opt.proofs.optimising.registers_weight.Given as goal

abbrev pub invariant-loop-register : goal.invariant-loop-register
invariant-loop-register l =
    l.sum ≡ min (sum_by (λ r. size_of (view r.next) + size_of (view r.enable)) (take l.register-index l.registers)) (2 ^ 64 - 1)
