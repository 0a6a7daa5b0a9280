use Rattle.std.proofs.Common.{subst}
use Rattle.tool_drive.specs.Table.{IsJudged}
use Rattle.fmi_run.specs.Fmi.{Minimises}
use Rattle.fmi_run.proofs.fmi.FmiCommandTool.judge.Goals as goal

pub returns : goal.returns
returns c =
    let command = c.args.self.now in
    subst (λ s. IsJudged (Minimises command s) c.told.result) c.bytes_at.ensures c.told.ensures
