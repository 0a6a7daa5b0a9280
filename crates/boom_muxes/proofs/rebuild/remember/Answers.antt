use Rattle.std.proofs.Common.{◌∙◌}
use Rattle.boom_muxes.proofs.Same.{put_last}
use Rattle.boom_muxes.proofs.rebuild.remember.Goals as goal

pub returns-in-Ok-clause-entries : goal.returns-in-Ok-clause-entries
returns-in-Ok-clause-entries c = c.in-Ok.ensures.entries ∙ put_last c.args.known.now.entries c.args.at c.args.literal c.requires
