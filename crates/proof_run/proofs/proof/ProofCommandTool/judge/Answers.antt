use Rattle.std.proofs.Common.{[], get_or, subst}
use Rattle.tool_drive.specs.Table.{IsJudged}
use Rattle.proof_run.specs.Proof.{Compares}
use Rattle.proof_run.proofs.proof.ProofCommandTool.judge.Goals as goal

pub returns : goal.returns
returns c =
    let command = c.args.self.now in
    subst (λ o. IsJudged (Compares command (get_or c.args.first.now 0 []) o) c.compared.result) c.bytes_at-2.ensures
    (subst (λ s. IsJudged (Compares command s c.bytes_at-2.result.now) c.compared.result) c.bytes_at.ensures c.compared.ensures)
