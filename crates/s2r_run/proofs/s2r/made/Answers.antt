use Rattle.std.proofs.Common.{refl}
use Rattle.ap_io.specs.Refusal.{IsApRefusal}
use Rattle.cougar_extract.proofs.Ready.{ready_figure}
use Rattle.tool_drive.specs.Refusals.{refused_file}
use Rattle.s2r_run.specs.S2r.{bad_layout, texts, Makes}
use Rattle.s2r_run.proofs.s2r.made.Goals as goal

pub made_process-requires-clause-figure : goal.made_process-requires-clause-figure
made_process-requires-clause-figure c = ready_figure c.what_is_read_is_a_figure.ensures c.args.source.now c.in-Ok.figure c.in-Ok.ensures.accepted

pub made_plain-requires-clause-figure : goal.made_plain-requires-clause-figure
made_plain-requires-clause-figure c = ready_figure c.what_is_read_is_a_figure.ensures c.args.source.now c.in-Ok.figure c.in-Ok.ensures.accepted

pub returns-in-Err : goal.returns-in-Err
returns-in-Err c = λ catal cells library.
    refused_file (Makes c.args.command.now (texts c.args.source.now c.args.table.now catal cells)) c.args.command.now.source (IsApRefusal c.args.source.now) c.in-Err.error c.refused.result c.plain.result
    c.in-Err.ensures.refused c.refused.ensures c.plain.ensures (λ o. (refl, bad_layout c.args.library.now library o))

pub returns-then-is_process : goal.returns-then-is_process
returns-then-is_process c = λ catal cells library. c.made_process.ensures catal c.args.source.now cells library c.in-Ok.ensures.accepted

pub returns : goal.returns
returns c = λ catal cells library. c.made_plain.ensures catal c.args.source.now cells library c.in-Ok.ensures.accepted
