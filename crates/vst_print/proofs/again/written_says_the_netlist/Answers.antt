use Rattle.vst_print.proofs.Saying.{written_says_the_netlist}
use Rattle.vst_print.proofs.again.written_says_the_netlist.Goals as goal

pub returns : goal.returns
returns c = written_says_the_netlist
