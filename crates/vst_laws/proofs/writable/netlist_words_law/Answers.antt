use Rattle.vst_laws.proofs.Words.{netlist_names, netlist_named}
use Rattle.vst_laws.proofs.Pins.{table_written}
use Rattle.vst_laws.proofs.writable.netlist_words_law.Goals as goal

pub returns-clause-names : goal.returns-clause-names
returns-clause-names c = netlist_names

pub returns-clause-named : goal.returns-clause-named
returns-clause-named c = netlist_named c.in_order_can_be_written.ensures

pub returns-clause-table : goal.returns-clause-table
returns-clause-table c = table_written c.cell_can_be_written.ensures
