use Rattle.nero_tracks.proofs.Free.{columns_are_free}
use Rattle.nero_tracks.proofs.law.columns_are_free.Goals as goal

pub returns : goal.returns
returns c = columns_are_free
