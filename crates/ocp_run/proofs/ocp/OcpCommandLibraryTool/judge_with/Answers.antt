use Rattle.std.proofs.Common.{[], get_or, subst}
use Rattle.tool_drive.specs.Table.{IsJudged}
use Rattle.ocp_run.specs.Ocp.{Places}
use Rattle.ocp_run.proofs.ocp.OcpCommandLibraryTool.judge_with.Goals as goal

pub returns : goal.returns
returns c = λ more library.
    subst (λ s. IsJudged (Places c.args.self.now s (get_or c.args.first.now 1 []) more) c.placed.result) c.bytes_at.ensures
    (c.placed.ensures (get_or c.args.first.now 1 []) more library)
