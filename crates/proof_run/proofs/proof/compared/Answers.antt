use Rattle.std.proofs.Common.{Err, sym, subst}
use Rattle.tool_drive.specs.declared.tool.Refusal.{Refusal}
use Rattle.tool_drive.specs.Table.{IsJudged}
use Rattle.proof_run.specs.Proof.{Compares}
use Rattle.proof_run.proofs.Refusing.{refused_plain}
use Rattle.proof_run.proofs.proof.compared.Goals as goal

pub returns-in-Err : goal.returns-in-Err
returns-in-Err c =
    subst (λ (r : Refusal). IsJudged (Compares c.args.command.now c.args.source.now c.args.other.now) (Err r)) (sym c.plain.ensures)
    (refused_plain c.args.command.now c.args.source.now c.args.other.now c.in-Err.status c.in-Err.ensures.refused)
