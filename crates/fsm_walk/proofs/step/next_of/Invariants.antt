use Rattle.std.proofs.Common.{◌≡◌, map, drop, Bor}
use Rattle.fsm_machine.specs.Walk.{given_next}
use Rattle.fsm_code.specs.View.{assignment_view}
use Rattle.fsm_code.specs.declared.statements.Assignment.{Assignment}
use Rattle.fsm_walk.specs.Trail.{last_given}
use Rattle.fsm_walk.proofs.step.next_of.Given as goal

abbrev pub invariant-loop-assignment : goal.invariant-loop-assignment
invariant-loop-assignment l =
    last_given given_next l.next (map (λ (a : Bor Assignment). assignment_view a.now) (drop l.assignment-index l.trail))
    ≡ last_given given_next 0 (map (λ (a : Bor Assignment). assignment_view a.now) l.trail)
