use Rattle.net_meaning.proofs.OneNetlist.{one_netlist}
use Rattle.net_meaning.proofs.one_netlist_law.Goals as goal

pub returns : goal.returns
returns c = one_netlist
