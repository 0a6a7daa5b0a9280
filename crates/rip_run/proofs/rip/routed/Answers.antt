use Rattle.std.proofs.Common.{Err, None, sym, subst, ap}
use Rattle.tool_drive.specs.declared.tool.Refusal.{Refusal}
use Rattle.tool_drive.specs.Table.{IsFair, IsJudged}
use Rattle.nero_run.specs.Asked.{Asked}
use Rattle.nero_run.specs.Nero.{texts, IsPlainRefusal, IsRoutable}
use Rattle.rip_run.specs.Asked.{AskedRips}
use Rattle.rip_run.specs.Rip.{Rips}
use Rattle.rip_run.proofs.Refusing.{by_given, by_routes}
use Rattle.rip_run.proofs.rip.routed.Goals as goal

pub returns-in-Err : goal.returns-in-Err
returns-in-Err c = λ more library.
    let t = texts c.args.first.now more in
    let s = c.in-Err.status in
    let routing = ap (λ (a : AskedRips). a.routing) c.command.view_is in
    subst (λ (r : Refusal). IsJudged (Rips c.args.command.now t) (Err r)) (sym c.plain.ensures)
    (by_given c.args.command.now t s (subst (λ (a : Asked). IsFair s None (IsPlainRefusal a t s)) routing (c.in-Err.ensures.refused more library)))

pub returns : goal.returns
returns c = λ more library.
    let t = texts c.args.first.now more in
    let l = c.args.library.now in
    let n = c.in-Ok.given.netlist in
    let p = c.in-Ok.given.placement in
    let routing = ap (λ (a : AskedRips). a.routing) c.command.view_is in
    by_routes c.args.command.now t l n p (subst (λ (a : Asked). IsRoutable a t l n p) routing (c.in-Ok.ensures.given more library)) c.product.result c.product.ensures.laid
    c.product.ensures.stuck
