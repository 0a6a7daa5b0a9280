use Rattle.net_machine.proofs.OutputRuns.{runs_as}
use Rattle.net_machine.proofs.runs_law.netlist_runs_as_its_machine.Goals as goal

pub returns : goal.returns
returns c = runs_as
