use Rattle.std.proofs.Common.{vec_len}
use Rattle.subject_table.specs.Makes.{Leads, IsClimb}
use Rattle.subject_table.proofs.Walking.{Climbs}
use Rattle.subject_table.proofs.table.Table.climb.Given as goal

abbrev pub invariant-loop-step : goal.invariant-loop-step
invariant-loop-step l =
    Climbs l.fn.self l.self l.initial.steps.items l.initial.number l.steps.items l.number
    × Leads l.fn.self l.self (IsClimb l.initial.steps.items l.initial.number) (IsClimb l.steps.items l.number)

abbrev pub decreases-loop-step : goal.decreases-loop-step
decreases-loop-step l = vec_len l.steps
