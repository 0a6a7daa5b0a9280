use Rattle.net_drawing.proofs.Untied.{untied_is_extracted}
use Rattle.net_drawing.proofs.untied_is_extracted.Goals as goal

pub returns : goal.returns
returns c = untied_is_extracted
