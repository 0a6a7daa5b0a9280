use Rattle.vbe_laws.proofs.Same.{machines_have_the_same_equations, machines_settle_the_same, machines_run_the_same}
use Rattle.vbe_laws.proofs.one_machine.machines_do_the_same.Goals as goal

pub returns-clause-equations : goal.returns-clause-equations
returns-clause-equations c = machines_have_the_same_equations

pub returns-clause-settling : goal.returns-clause-settling
returns-clause-settling c = machines_settle_the_same

pub returns-clause-runs : goal.returns-clause-runs
returns-clause-runs c = machines_run_the_same
