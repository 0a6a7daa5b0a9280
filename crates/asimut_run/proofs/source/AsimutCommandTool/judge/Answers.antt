use Rattle.std.proofs.Common.{[], get_or, subst}
use Rattle.tool_drive.specs.Table.{IsJudged}
use Rattle.asimut_run.specs.Asimut.{Simulates}
use Rattle.asimut_run.proofs.source.AsimutCommandTool.judge.Goals as goal

pub returns : goal.returns
returns c =
    let command = c.args.self.now in
    subst (λ p. IsJudged (Simulates command (get_or c.args.first.now 0 []) p) c.simulated.result) c.bytes_at-2.ensures
    (subst (λ s. IsJudged (Simulates command s c.bytes_at-2.result.now) c.simulated.result) c.bytes_at.ensures c.simulated.ensures)
