use Rattle.ap_io.proofs.Figures.{what_is_read}
use Rattle.ap_io.proofs.laws.what_is_read_is_a_figure.Goals as goal

pub returns : goal.returns
returns c = what_is_read
