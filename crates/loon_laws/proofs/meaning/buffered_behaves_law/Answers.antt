use Rattle.loon_laws.proofs.Alike.{buffered_behaves}
use Rattle.loon_laws.proofs.meaning.buffered_behaves_law.Goals as goal

pub returns : goal.returns
returns c = buffered_behaves c.remains_law.ensures c.exchanged_law.ensures.cells
