use Rattle.std.proofs.lemmas.Result.{IfOk-weaker}
use Rattle.bool_expr.specs.View.{view}
use Rattle.machine_free.proofs.Greater.{greater}
use Rattle.boom_choose.proofs.Picked.{picked}
use Rattle.boom_choose.proofs.choosing.free_choice.Goals as goal

pub returns-in_ok-pick-in-Ok : goal.returns-in_ok-pick-in-Ok
returns-in_ok-pick-in-Ok c =
    let lo = view c.args.low.now in
    let hi = view c.args.high.now in
    IfOk-weaker c.said.result _ _
    (λ x says. picked c.args.m.now c.requires.checked lo hi c.requires.low c.requires.high (λ w. greater lo hi w c.requires.freed) c.requires.apart
    c.in-Ok.joint c.in_ok-pick-in-Ok.pick (view x) c.in-Ok.ensures.diagram c.in_ok-pick-in-Ok.ensures says) c.said.ensures
