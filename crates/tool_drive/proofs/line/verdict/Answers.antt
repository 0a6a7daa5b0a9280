use Rattle.std.proofs.Common.{◌≡◌, ◌++◌, OnOk, codes, ℕ, List, sym, subst}
use Rattle.tool_drive.specs.declared.status.Verdict.{Verdict}
use Rattle.tool_drive.specs.Lines.{verdict_text}
use Rattle.tool_drive.proofs.line.verdict.Goals as goal

pub returns-in-NoBehaviour : goal.returns-in-NoBehaviour
returns-in-NoBehaviour c =
    subst (λ (v : Verdict). OnOk c.with_name.result (c.with_name.new.out ≡ c.args.out.now ++ verdict_text v)) (sym c.in-NoBehaviour.is)
    (subst (λ (text : List ℕ). OnOk c.with_name.result (c.with_name.new.out ≡ c.args.out.now ++ (codes "no behaviour " ++ text))) c.as_bytes-in-NoBehaviour.ensures c.with_name.ensures)
