use Rattle.std.proofs.Common.{subst}
use Rattle.tool_drive.specs.Table.{IsJudged}
use Rattle.boom_run.specs.Boom.{MakesSmaller}
use Rattle.boom_run.proofs.boom.BoomCommandTool.judge.Goals as goal

pub returns : goal.returns
returns c =
    let command = c.args.self.now in
    subst (λ s. IsJudged (MakesSmaller command s) c.made_smaller.result) c.bytes_at.ensures c.made_smaller.ensures
