use Rattle.machine_core.proofs.Runs.{alike_run, both_ways, itself}
use Rattle.machine_core.proofs.alike.alike_law.Goals as goal

pub returns-clause-runs : goal.returns-clause-runs
returns-clause-runs c = alike_run

pub returns-clause-both_ways : goal.returns-clause-both_ways
returns-clause-both_ways c = both_ways

pub returns-clause-itself : goal.returns-clause-itself
returns-clause-itself c = itself
