use Rattle.gen_circuit.proofs.Weight.{circuits_are_small}
use Rattle.gen_circuit.proofs.law.circuits_are_small.Goals as goal

pub returns : goal.returns
returns c = circuits_are_small
