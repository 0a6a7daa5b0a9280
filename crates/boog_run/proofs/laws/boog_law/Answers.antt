use Rattle.boog_run.proofs.Mapping.{agrees, tight, said}
use Rattle.boog_run.proofs.laws.boog_law.Goals as goal

pub returns-clause-agrees : goal.returns-clause-agrees
returns-clause-agrees c = λ command source list cells p h k seen. agrees c.right_is_well_formed.ensures.seen command source list cells p h k seen

pub returns-clause-tight : goal.returns-clause-tight
returns-clause-tight c = λ command source list cells p h k seen. tight command source list cells p h k seen

pub returns-clause-said : goal.returns-clause-said
returns-clause-said c = λ command source list cells p h limits.
    said c.machine_is_named.ensures c.catal_is_named.ensures c.machine_can_be_written.ensures c.cell_can_be_written.ensures c.written_is_a_sentence.ensures c.written_says_the_netlist.ensures
    command source list cells p h limits
