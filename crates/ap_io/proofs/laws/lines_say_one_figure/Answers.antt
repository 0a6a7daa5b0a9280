use Rattle.ap_io.proofs.Once.{one_figure_of_lines}
use Rattle.ap_io.proofs.laws.lines_say_one_figure.Goals as goal

pub returns : goal.returns
returns c = one_figure_of_lines
