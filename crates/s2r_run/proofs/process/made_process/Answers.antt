use Rattle.std.proofs.Common.{◌∙◌, Err, sym, subst, refl}
use Rattle.tool_drive.specs.declared.tool.Refusal.{Refusal}
use Rattle.tool_drive.specs.Refusals.{refused_file}
use Rattle.tool_drive.specs.Table.{IsJudged}
use Rattle.real_table.specs.Process.{IsProcessRefusal}
use Rattle.s2r_run.specs.S2r.{bad_process, texts, Makes}
use Rattle.s2r_run.proofs.Refusing.{by_process, made_process}
use Rattle.s2r_run.proofs.process.made_process.Goals as goal

pub returns-in-Err : goal.returns-in-Err
returns-in-Err c = λ catal source cells library figure.
    refused_file (Makes c.args.command.now (texts source c.args.table.now catal cells)) c.args.command.now.table (IsProcessRefusal c.args.table.now) c.in-Err.error
    c.refused.result c.plain.result c.in-Err.ensures.refused c.refused.ensures c.plain.ensures
    (λ o. (refl, bad_process c.args.library.now c.args.figure.now library figure c.requires.process o))

pub returns-in-Err-to_process : goal.returns-in-Err-to_process
returns-in-Err-to_process c = λ catal source cells library figure.
    subst (λ (r : Refusal). IsJudged (Makes c.args.command.now (texts source c.args.table.now catal cells)) (Err r)) (sym c.plain-in-Err-to_process.ensures)
    (by_process c.args.command.now (texts source c.args.table.now catal cells) c.args.library.now c.args.figure.now c.in-Ok.table
    (record { library = library; figure = figure; process = c.requires.process; table = c.in-Ok.ensures.read })
    c.in-Err-to_process.error c.process_status.result c.in-Err-to_process.ensures.refused c.process_status.ensures)

pub returns : goal.returns
returns c = λ catal source cells library figure.
    made_process c.args.command.now (texts source c.args.table.now catal cells) c.args.library.now c.args.figure.now c.in-Ok.table
    (record { library = library; figure = figure; process = c.requires.process; table = c.in-Ok.ensures.read })
    c.as_slice.result.now c.in_ok-product.product (c.as_slice.ensures ∙ c.in-Ok-to_process.ensures.boxes)
    c.in-Ok-to_process.ensures.able c.in_ok-product.ensures
