use Rattle.nero_tracks.proofs.Numbered.{nets_have_numbers}
use Rattle.nero_tracks.proofs.law.nets_have_numbers.Goals as goal

pub returns : goal.returns
returns c = nets_have_numbers
