use Rattle.net_bits.proofs.Seen.{seen_is}
use Rattle.net_bits.proofs.each_netlist_is_seen.Goals as goal

pub returns : goal.returns
returns c = seen_is
