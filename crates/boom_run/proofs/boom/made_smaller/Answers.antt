use Rattle.std.proofs.Common.{Err, sym, subst}
use Rattle.tool_drive.specs.declared.tool.Refusal.{Refusal}
use Rattle.tool_drive.specs.Table.{IsJudged}
use Rattle.boom_run.specs.Boom.{MakesSmaller}
use Rattle.boom_run.proofs.Refusing.{by_source}
use Rattle.boom_run.proofs.boom.made_smaller.Goals as goal

pub returns-in-Err : goal.returns-in-Err
returns-in-Err c =
    subst (λ (r : Refusal). IsJudged (MakesSmaller c.args.command.now c.args.source.now) (Err r)) (sym c.plain.ensures)
    (by_source c.args.command.now c.args.source.now c.in-Err.error c.refused.result c.in-Err.ensures.refused c.refused.ensures)

pub optimised_source-requires : goal.optimised_source-requires
optimised_source-requires c = (c.args.source.now, c.in-Ok.ensures.accepted)

pub returns : goal.returns
returns c = c.optimised_source.ensures c.args.source.now c.in-Ok.ensures.accepted
