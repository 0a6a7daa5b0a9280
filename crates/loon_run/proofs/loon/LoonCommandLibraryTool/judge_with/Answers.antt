use Rattle.std.proofs.Common.{[], get_or, subst}
use Rattle.tool_drive.specs.Table.{IsJudged}
use Rattle.loon_run.specs.Loon.{Limits}
use Rattle.loon_run.proofs.loon.LoonCommandLibraryTool.judge_with.Goals as goal

pub returns : goal.returns
returns c = λ more library.
    subst (λ s. IsJudged (Limits c.args.self.now s (get_or c.args.first.now 1 []) more) c.limited.result) c.bytes_at.ensures
    (c.limited.ensures (get_or c.args.first.now 1 []) more library)
