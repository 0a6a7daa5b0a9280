use Rattle.std.proofs.Common.{[], get_or, subst}
use Rattle.tool_drive.specs.Table.{IsJudged}
use Rattle.flow_run.specs.Flow.{LaysOut}
use Rattle.flow_run.proofs.flow.FlowTool.judge.Goals as goal

pub returns : goal.returns
returns c =
    let command = c.self.inside.command.now in
    let cells = c.args.more.now in
    subst (λ asked. IsJudged (LaysOut asked (get_or c.args.first.now 0 []) (get_or c.args.first.now 1 []) cells) c.laid_out.result) c.self.view_is
    (subst (λ list. IsJudged (LaysOut command (get_or c.args.first.now 0 []) list cells) c.laid_out.result) c.bytes_at-2.ensures
    (subst (λ s. IsJudged (LaysOut command s c.bytes_at-2.result.now cells) c.laid_out.result) c.bytes_at.ensures c.laid_out.ensures))
