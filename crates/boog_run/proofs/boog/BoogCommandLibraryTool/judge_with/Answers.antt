use Rattle.std.proofs.Common.{[], get_or, subst}
use Rattle.tool_drive.specs.Table.{IsJudged}
use Rattle.boog_run.specs.Boog.{Maps}
use Rattle.boog_run.proofs.boog.BoogCommandLibraryTool.judge_with.Goals as goal

pub returns : goal.returns
returns c = λ more library.
    subst (λ s. IsJudged (Maps c.args.self.now s (get_or c.args.first.now 1 []) more) c.mapped.result) c.bytes_at.ensures
    (c.mapped.ensures (get_or c.args.first.now 1 []) more library)
