use Rattle.std.proofs.Common.{◌≤◌, ◌+◌, ◌*◌}
use Rattle.bool_expr.specs.declared.expr.Expr.{size-Expr}
use Rattle.bool_expr.specs.View.{view}
use Rattle.subject_table.proofs.Walking.{Walking}
use Rattle.subject_table.proofs.Ways.{Walk}
use Rattle.subject_table.proofs.table.Table.+expr.Given as goal

-- the two go by the depth, `expr` above `steps`
abbrev pub decreases-expr : goal.decreases-expr
decreases-expr l = 2 * size-Expr l.e.now + 1

abbrev pub decreases-steps : goal.decreases-steps
decreases-steps l = 2 * size-Expr l.e.now

abbrev pub invariant-steps-loop-rest : goal.invariant-steps-loop-rest
invariant-steps-loop-rest l =
    (size-Expr l.rest ≤ size-Expr l.initial.rest) × Walking l.fn.self l.self l.numbers (view l.initial.rest) l.steps.items (view l.rest)
    × Walk l.fn.self l.self l.numbers (view l.initial.rest) l.steps.items (view l.rest)
