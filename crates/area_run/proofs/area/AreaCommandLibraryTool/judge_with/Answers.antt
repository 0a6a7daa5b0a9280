use Rattle.std.proofs.Common.{[], get_or, subst}
use Rattle.tool_drive.specs.Table.{IsJudged}
use Rattle.area_run.specs.Area.{Measures}
use Rattle.area_run.proofs.area.AreaCommandLibraryTool.judge_with.Goals as goal

pub returns : goal.returns
returns c = λ more library.
    subst (λ s. IsJudged (Measures c.args.self.now s (get_or c.args.first.now 1 []) more) c.told.result) c.bytes_at.ensures
    (c.told.ensures (get_or c.args.first.now 1 []) more library)
