use Rattle.flow_run.proofs.Circuits.{run_headline, run_ends}
use Rattle.flow_run.proofs.Spared.{spared}
use Rattle.flow_run.proofs.gen_run.gen_law.Goals as goal

pub returns-clause-headline : goal.returns-clause-headline
returns-clause-headline c =
    run_headline c.circuits_are_read_again.ensures c.circuits_are_checked.ensures c.alike_law.ensures.runs c.alike_law.ensures.both_ways
    c.machines_are_the_same.ensures.size c.roots_are_the_same.ensures.dags c.roots_are_the_same.ensures.counts c.roots_are_the_same.ensures.inner

pub returns-clause-spared : goal.returns-clause-spared
returns-clause-spared c = spared c.circuits_are_read_again.ensures c.circuits_can_be_written.ensures

pub returns-clause-free : goal.returns-clause-free
returns-clause-free c = run_ends c.circuits_can_be_written.ensures c.circuit_law.ensures
