use Rattle.std.proofs.Common.{List, Err, sym, subst}
use Rattle.vlsi_base.specs.declared.name.Port.{Port}
use Rattle.pat_meaning.specs.declared.patterns.Pattern.{Pattern}
use Rattle.pat_io.specs.PatternText.{IsPatternText}
use Rattle.tool_drive.specs.declared.tool.Refusal.{Refusal}
use Rattle.tool_drive.specs.Table.{IsJudged}
use Rattle.asimut_run.specs.Asimut.{Simulates, IsToldOf}
use Rattle.asimut_run.proofs.Refusing.{by_source, by_difference}
use Rattle.asimut_run.proofs.source.simulated.Goals as goal

pub returns-in-Err : goal.returns-in-Err
returns-in-Err c =
    subst (λ (r : Refusal). IsJudged (Simulates c.args.command.now c.args.source.now c.args.patterns.now) (Err r)) (sym c.plain.ensures)
    (by_source c.args.command.now c.args.source.now c.args.patterns.now c.in-Err.error c.refused.result c.in-Err.ensures.refused c.refused.ensures)

pub returns-in-Err-simulate : goal.returns-in-Err-simulate
returns-in-Err-simulate c =
    let fits = subst (λ (ports : List Port). IsPatternText c.args.patterns.now ports c.in-Ok-read_pat.read) c.ports.ensures.value c.in-Ok-read_pat.ensures.accepted in
    let told = subst (λ (ps : List Pattern). IsToldOf ps c.in-Err-simulate.error c.different.result) c.as_slice-patterns.ensures c.different.ensures in
    subst (λ (r : Refusal). IsJudged (Simulates c.args.command.now c.args.source.now c.args.patterns.now) (Err r)) (sym c.plain-in-Err-simulate.ensures)
    (by_difference c.args.command.now c.args.source.now c.args.patterns.now c.in-Ok.machine c.in-Ok-read_pat.read c.in-Err-simulate.error c.different.result
    c.in-Ok.ensures.accepted fits c.in-Err-simulate.ensures.differs told)
