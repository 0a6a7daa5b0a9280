use Rattle.std.proofs.Common.{◌≡◌, ◌-◌, ◌^◌, min, take}
use Rattle.std.specs.List.{sum_by}
use Rattle.bool_expr.specs.Expression.{size_of}
use Rattle.bool_expr.specs.View.{view}
use Rattle.boom_opt.proofs.optimising.equations_weight.Given as goal

abbrev pub invariant-loop-equation : goal.invariant-loop-equation
invariant-loop-equation l =
    l.sum ≡ min (sum_by (λ e. size_of (view e.expr)) (take l.equation-index l.equations)) (2 ^ 64 - 1)
