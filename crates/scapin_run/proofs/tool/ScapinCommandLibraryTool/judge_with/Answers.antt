use Rattle.std.proofs.Common.{List, ℕ, [], get_or, subst}
use Rattle.tool_drive.specs.Table.{IsJudged}
use Rattle.scapin_run.specs.Scapin.{texts, Makes}
use Rattle.scapin_run.proofs.tool.ScapinCommandLibraryTool.judge_with.Goals as goal

pub returns : goal.returns
returns c = λ more library.
    let catal = get_or c.args.first.now 2 [] in
    subst (λ (t : List ℕ). IsJudged (Makes c.args.self.now (texts (get_or c.args.first.now 0 []) t catal more)) c.made.result) c.bytes_at-2.ensures
    (subst (λ (s : List ℕ). IsJudged (Makes c.args.self.now (texts s c.bytes_at-2.result.now catal more)) c.made.result) c.bytes_at.ensures (c.made.ensures catal more library))
