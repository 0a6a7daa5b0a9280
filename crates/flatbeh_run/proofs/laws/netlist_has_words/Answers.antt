use Rattle.flatbeh_run.proofs.NetlistWords.{netlist_words}
use Rattle.flatbeh_run.proofs.laws.netlist_has_words.Goals as goal

pub returns : goal.returns
returns c = netlist_words c.in_order_can_be_written.ensures c.netlist_words_law.ensures.names
