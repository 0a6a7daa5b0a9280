use Rattle.std.proofs.Common.{[], get_or, subst}
use Rattle.tool_drive.specs.Table.{IsJudged}
use Rattle.druc_run.specs.Druc.{Checks}
use Rattle.druc_run.proofs.druc.DrucCommandLibraryTool.judge_with.Goals as goal

pub returns : goal.returns
returns c = λ more library.
    subst (λ s. IsJudged (Checks c.args.self.now s (get_or c.args.first.now 1 []) more) c.checked.result) c.bytes_at.ensures
    (c.checked.ensures (get_or c.args.first.now 1 []) more library)
