use Rattle.std.proofs.Common.{◌∙◌, sym}
use Rattle.boom_choose.proofs.Same.{among}
use Rattle.boom_choose.proofs.dag.is_seen.Goals as goal

pub returns : goal.returns
returns c = λ e. among c.args.at c.args.seen.now.keys (sym c.contains.ensures ∙ e)
