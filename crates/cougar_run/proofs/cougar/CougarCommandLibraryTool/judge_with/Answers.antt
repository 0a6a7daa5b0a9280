use Rattle.std.proofs.Common.{[], get_or, subst}
use Rattle.tool_drive.specs.Table.{IsJudged}
use Rattle.cougar_run.specs.Cougar.{Extracts}
use Rattle.cougar_run.proofs.cougar.CougarCommandLibraryTool.judge_with.Goals as goal

pub returns : goal.returns
returns c = λ more library.
    subst (λ s. IsJudged (Extracts c.args.self.now s (get_or c.args.first.now 1 []) more) c.extracted.result) c.bytes_at.ensures
    (c.extracted.ensures (get_or c.args.first.now 1 []) more library)
