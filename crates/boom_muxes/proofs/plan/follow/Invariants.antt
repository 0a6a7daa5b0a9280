use Rattle.std.proofs.Common.{map}
use Rattle.bool_expr.specs.View.{view}
use Rattle.machine_core.specs.View.{equation_view}
use Rattle.boom_muxes.proofs.Led.{IsFollowing, name_number}
use Rattle.boom_muxes.proofs.plan.follow.Given as goal

abbrev pub invariant-loop-rest : goal.invariant-loop-rest
invariant-loop-rest l = IsFollowing l.held (map equation_view l.equations) l.literal (view l.e) (view l.rest) l.fn.plan.items l.plan.items

abbrev pub decreases-loop-rest : goal.decreases-loop-rest
decreases-loop-rest l = name_number (view l.rest)
