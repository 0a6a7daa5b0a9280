use Rattle.std.proofs.Common.{◌≡◌, ◌++◌, filter, not, drop}
use Rattle.bool_expr.specs.Expression.{bit}
use Rattle.proof_joint.proofs.joint.joined_order.Given as goal

abbrev pub invariant-loop-name : goal.invariant-loop-name
invariant-loop-name l =
    l.order.items ++ filter (λ k. not (bit l.first.met.items k)) (drop l.name-index l.second) ≡ l.first.order.items ++ filter (λ k. not (bit l.first.met.items k)) l.second
