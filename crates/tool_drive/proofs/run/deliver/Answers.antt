use Rattle.std.proofs.Common.{refl, inr}
use Rattle.tool_drive.proofs.run.deliver.Goals as goal

pub returns-in-Err-Memory-put-clause-left : goal.returns-in-Err-Memory-put-clause-left
returns-in-Err-Memory-put-clause-left g c = inr (c.args.product, refl, c.in-Ok.ensures.ok)
