use Rattle.std.proofs.Common.{Err, List, map, sym, subst, refl}
use Rattle.ap_io.specs.Refusal.{IsApRefusal}
use Rattle.tool_drive.specs.Refusals.{refused_file}
use Rattle.tool_drive.specs.declared.tool.Refusal.{Refusal}
use Rattle.tool_drive.specs.Table.{IsJudged}
use Rattle.druc_rules.specs.declared.breach.Breach.{Breach}
use Rattle.druc_rules.specs.Breaches.{breach_of}
use Rattle.cougar_extract.proofs.Ready.{ready_figure}
use Rattle.druc_run.specs.Druc.{bad_layout, Checks, IsAnswerOf}
use Rattle.druc_run.proofs.Refusing.{by_rules, answered}
use Rattle.druc_run.proofs.druc.checked.Goals as goal

pub broken-requires : goal.broken-requires
broken-requires c = ready_figure c.what_is_read_is_a_figure.ensures c.args.source.now c.in-Ok.figure c.in-Ok.ensures.accepted

pub returns-in-Err : goal.returns-in-Err
returns-in-Err c = λ catal cells library.
    refused_file (Checks c.args.command.now c.args.source.now catal cells) c.args.command.now.source (IsApRefusal c.args.source.now) c.in-Err.error c.refused.result c.plain.result c.in-Err.ensures.refused
    c.refused.ensures c.plain.ensures (λ o. (refl, bad_layout c.args.library.now library o))

pub returns-in-Err-broken : goal.returns-in-Err-broken
returns-in-Err-broken c = λ catal cells library.
    subst (λ (r : Refusal). IsJudged (Checks c.args.command.now c.args.source.now catal cells) (Err r)) (sym c.plain-in-Err-broken.ensures)
    (by_rules c.args.command.now c.args.source.now catal cells c.args.library.now library c.in-Ok.figure c.in-Ok.ensures.accepted
    c.in-Err-broken.error c.druc_status.result c.in-Err-broken.ensures.refused c.druc_status.ensures)

pub returns : goal.returns
returns c = λ catal cells library.
    answered c.args.command.now c.args.source.now catal cells c.args.library.now library c.in-Ok.figure c.in-Ok.ensures.accepted
    c.in-Ok-broken.ensures.known c.in-Ok-broken.ensures.few c.in-Ok-broken.found
    ((c.standard_rules_law.ensures c.standard.result c.in-Ok.figure.items c.args.library.now (map breach_of c.in-Ok-broken.found) c.standard.ensures.width c.standard.ensures.gap).0 c.in-Ok-broken.ensures.breaches)
    c.answer.result
    (subst (λ (bs : List Breach). IsJudged (IsAnswerOf c.args.command.now bs) c.answer.result) c.as_slice.ensures c.answer.ensures)
