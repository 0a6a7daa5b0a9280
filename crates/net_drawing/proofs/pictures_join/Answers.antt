use Rattle.net_drawing.proofs.Bridge.{pictures_join}
use Rattle.net_drawing.proofs.pictures_join.Goals as goal

pub returns : goal.returns
returns c = pictures_join
