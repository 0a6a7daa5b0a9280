use Rattle.std.proofs.Common.{sym, subst, refl}
use Rattle.std.specs.List.{slice_set}
use Rattle.fsm_machine.specs.Statements.{Assignment, output}
use Rattle.fsm_code.specs.View.{assignment_view}
use Rattle.bool_expr.specs.View.{view}
use Rattle.fsm_walk.specs.Trail.{EachGiven}
use Rattle.fsm_walk.proofs.Giving.{given_at, given_there}
use Rattle.fsm_walk.proofs.step.assign.Goals as goal

pub returns-in-Some : goal.returns-in-Some
returns-in-Some c =
    let w = c.args.bits.now in
    let names = c.args.outputs.now in
    let news = slice_set c.args.outs.now c.in-Some.place c.value_at.result in
    subst (λ a. EachGiven (given_at w names) (assignment_view a) c.args.outs.now news) (sym c.in-Output.is)
    (given_there w names c.in-Some.place c.in-Output.target (view c.in-Output.e) c.value_at.result c.args.outs.now news c.requires.order c.requires.count c.in-Some.ensures
    c.value_at.ensures refl)
