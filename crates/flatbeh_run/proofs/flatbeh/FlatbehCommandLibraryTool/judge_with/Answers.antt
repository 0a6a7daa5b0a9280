use Rattle.std.proofs.Common.{[], get_or, subst}
use Rattle.tool_drive.specs.Table.{IsJudged}
use Rattle.flatbeh_run.specs.Flatbeh.{Flattens}
use Rattle.flatbeh_run.proofs.flatbeh.FlatbehCommandLibraryTool.judge_with.Goals as goal

pub returns : goal.returns
returns c = λ more library.
    subst (λ s. IsJudged (Flattens c.args.self.now s (get_or c.args.first.now 1 []) more) c.flattened.result) c.bytes_at.ensures
    (c.flattened.ensures (get_or c.args.first.now 1 []) more library)
