use Rattle.std.proofs.Common.{Err, refl, sym, subst}
use Rattle.tool_drive.specs.declared.tool.Refusal.{Refusal}
use Rattle.tool_drive.specs.Table.{IsJudged}
use Rattle.lvx_run.specs.Lvx.{Tells}
use Rattle.lvx_run.proofs.lvx.told.Goals as goal

pub returns-in-Different : goal.returns-in-Different
returns-in-Different c =
    subst (λ (r : Refusal). IsJudged (Tells c.args.command.now c.args.a.now c.args.b.now) (Err r)) (sym c.plain.ensures)
    (refl, (c.in-Different.name, (c.in_ok-compare.ensures.different c.in-Different.name).0 c.in-Different.is, refl))
