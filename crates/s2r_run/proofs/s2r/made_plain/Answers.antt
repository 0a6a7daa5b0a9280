use Rattle.std.proofs.Common.{Err, sym, subst, refl}
use Rattle.tool_drive.specs.declared.tool.Refusal.{Refusal}
use Rattle.tool_drive.specs.Refusals.{refused_file}
use Rattle.tool_drive.specs.Table.{IsJudged}
use Rattle.s2r_run.specs.TableText.{IsTableRefusal}
use Rattle.s2r_run.specs.S2r.{bad_table, texts, Makes}
use Rattle.s2r_run.proofs.Refusing.{by_real, made_real}
use Rattle.s2r_run.proofs.s2r.made_plain.Goals as goal

pub returns-in-Err : goal.returns-in-Err
returns-in-Err c = λ catal source cells library figure.
    refused_file (Makes c.args.command.now (texts source c.args.table.now catal cells)) c.args.command.now.table (IsTableRefusal c.args.table.now) c.in-Err.error
    c.refused.result c.plain.result c.in-Err.ensures.refused c.refused.ensures c.plain.ensures
    (λ o. (refl, bad_table c.args.library.now c.args.figure.now library figure c.requires.plain o))

pub returns-in-Err-to_real : goal.returns-in-Err-to_real
returns-in-Err-to_real c = λ catal source cells library figure.
    subst (λ (r : Refusal). IsJudged (Makes c.args.command.now (texts source c.args.table.now catal cells)) (Err r)) (sym c.plain-in-Err-to_real.ensures)
    (by_real c.args.command.now (texts source c.args.table.now catal cells) c.args.library.now c.args.figure.now c.in-Ok.table
    (record { library = library; figure = figure; plain = c.requires.plain; table = c.in-Ok.ensures.read })
    c.in-Err-to_real.error c.real_status.result c.in-Err-to_real.ensures.refused c.real_status.ensures)

pub returns : goal.returns
returns c = λ catal source cells library figure.
    made_real c.args.command.now (texts source c.args.table.now catal cells) c.args.library.now c.args.figure.now c.in-Ok.table
    (record { library = library; figure = figure; plain = c.requires.plain; table = c.in-Ok.ensures.read })
    c.in-Ok-to_real.layout c.in_ok-product.product c.in-Ok-to_real.ensures.real c.in-Ok-to_real.ensures.accepted c.in_ok-product.ensures
