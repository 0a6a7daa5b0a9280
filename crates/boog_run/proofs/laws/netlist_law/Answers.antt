use Rattle.boog_run.proofs.Short.{is_short}
use Rattle.boog_run.proofs.Bounds.{can_be_declared, can_be_written, is_small}
use Rattle.boog_run.proofs.laws.netlist_law.Goals as goal

pub returns-clause-declared : goal.returns-clause-declared
returns-clause-declared c = λ source m machine.
    can_be_declared c.machine_is_named.ensures c.machine_can_be_written.ensures c.names_are_short.ensures.machine source m machine

pub returns-clause-writable : goal.returns-clause-writable
returns-clause-writable c = λ list cells l m n library declared small netlist.
    can_be_written c.catal_is_named.ensures c.cell_can_be_written.ensures list cells l m n library declared small netlist

pub returns-clause-short : goal.returns-clause-short
returns-clause-short c = λ list cells l m n library declared small netlist. is_short c.names_are_short.ensures.catal list cells l m n library declared small netlist

pub returns-clause-small : goal.returns-clause-small
returns-clause-small c = λ l m n checked declared small netlist. is_small l m n checked declared small netlist
