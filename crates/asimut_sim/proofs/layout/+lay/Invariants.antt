use Rattle.std.proofs.Common.{◌≤◌, ◌+◌, ◌*◌}
use Rattle.bool_expr.specs.declared.expr.Expr.{size-Expr}
use Rattle.bool_expr.specs.View.{view}
use Rattle.asimut_sim.proofs.LayoutLemmas.{Down}
use Rattle.asimut_sim.proofs.layout.+lay.Given as goal

-- the two go by the depth, `lay` above `descend`
abbrev pub decreases-lay : goal.decreases-lay
decreases-lay l = 2 * size-Expr l.e.now + 1

abbrev pub decreases-descend : goal.decreases-descend
decreases-descend l = 2 * size-Expr l.e.now

abbrev pub invariant-descend-loop-rest : goal.invariant-descend-loop-rest
invariant-descend-loop-rest l =
    (size-Expr l.rest ≤ size-Expr l.initial.rest) × Down l.initial.program l.program l.vars (view l.initial.rest) l.steps.items (view l.rest)
