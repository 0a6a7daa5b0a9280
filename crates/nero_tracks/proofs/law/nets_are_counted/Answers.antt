use Rattle.nero_tracks.proofs.Numbered.{nets_are_counted}
use Rattle.nero_tracks.proofs.law.nets_are_counted.Goals as goal

pub returns : goal.returns
returns c = nets_are_counted
