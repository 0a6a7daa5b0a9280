use Rattle.ap_io.proofs.Once.{one_figure}
use Rattle.ap_io.proofs.laws.one_figure.Goals as goal

pub returns : goal.returns
returns c = one_figure
