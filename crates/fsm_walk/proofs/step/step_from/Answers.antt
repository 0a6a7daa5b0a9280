use Rattle.std.proofs.Common.{length, List, map, Bor, ap, ◌∙◌}
use Rattle.fsm_code.specs.View.{assignment_view, body_view}
use Rattle.fsm_code.specs.declared.statements.Assignment.{Assignment}
use Rattle.fsm_walk.proofs.Meeting.{found_over}
use Rattle.fsm_walk.proofs.step.step_from.Goals as goal

pub outputs_of-requires-clause-over : goal.outputs_of-requires-clause-over
outputs_of-requires-clause-over c =
    found_over (length c.args.bits.now) c.args.bits.now c.args.state (body_view c.args.body.now) c.deref.result.now c.requires.over
    (ap (λ (xs : List (Bor Assignment)). map (λ (a : Bor Assignment). assignment_view a.now) xs) c.deref.ensures.value ∙ c.in_ok-trail.ensures)
