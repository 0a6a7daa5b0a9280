use Rattle.std.proofs.Common.{◌+◌}
use Rattle.bool_expr.specs.View.{view}
use Rattle.machine_walk.specs.Expansion.{held_count}
use Rattle.machine_walk.specs.Turn.{views}
use Rattle.machine_walk.proofs.Turns.{IsWalking, pending}
use Rattle.machine_walk.proofs.Stacks.{to_read, weighing}
use Rattle.machine_walk.proofs.walking.walk.Given as goal

abbrev pub invariant-loop-next : goal.invariant-loop-next
invariant-loop-next l = IsWalking l.m (view l.e) l.walked.met.items l.walked.order.items (to_read (views l.waiting.items))

abbrev pub decreases-loop-next : goal.decreases-loop-next
decreases-loop-next l = weighing (views l.waiting.items) + pending l.walked.met.items (held_count l.m) l.m.equations
