use Rattle.std.proofs.Common.{Err, sym, subst}
use Rattle.tool_drive.specs.declared.tool.Refusal.{Refusal}
use Rattle.tool_drive.specs.Table.{IsJudged}
use Rattle.nero_run.specs.Nero.{texts, Routes}
use Rattle.nero_run.proofs.Refusing.{by_given, by_routes}
use Rattle.nero_run.proofs.nero.routed.Goals as goal

pub returns-in-Err : goal.returns-in-Err
returns-in-Err c = λ more library.
    let t = texts c.args.first.now more in
    subst (λ (r : Refusal). IsJudged (Routes c.args.command.now t) (Err r)) (sym c.plain.ensures)
    (by_given c.args.command.now t c.in-Err.status (c.in-Err.ensures.refused more library))

pub returns : goal.returns
returns c = λ more library.
    by_routes c.args.command.now (texts c.args.first.now more) c.args.library.now c.in-Ok.given.netlist c.in-Ok.given.placement (c.in-Ok.ensures.given more library)
    c.product.result c.product.ensures.laid c.product.ensures.stuck
