use Rattle.gen_circuit.proofs.Checking.{circuits_are_checked}
use Rattle.gen_circuit.proofs.law.circuits_are_checked.Goals as goal

pub returns : goal.returns
returns c = circuits_are_checked
