use Rattle.vst_io.proofs.Once.{one_netlist}
use Rattle.vst_io.proofs.laws.one_netlist.Goals as goal

pub returns : goal.returns
returns c = one_netlist
