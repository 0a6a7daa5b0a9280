use Rattle.std.proofs.Common.{subst}
use Rattle.tool_drive.specs.Table.{IsJudged}
use Rattle.syf_run.specs.Syf.{Encodes}
use Rattle.syf_run.proofs.syf.SyfCommandTool.judge.Goals as goal

pub returns : goal.returns
returns c =
    let command = c.args.self.now in
    subst (λ s. IsJudged (Encodes command s) c.encodes.result) c.bytes_at.ensures c.encodes.ensures
