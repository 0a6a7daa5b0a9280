use Rattle.gen_circuit.proofs.Read.{circuits_can_be_written}
use Rattle.gen_circuit.proofs.law.circuits_can_be_written.Goals as goal

pub returns : goal.returns
returns c = circuits_can_be_written
