use Rattle.gen_circuit.proofs.Read.{circuits_are_read_again}
use Rattle.gen_circuit.proofs.law.circuits_are_read_again.Goals as goal

pub returns : goal.returns
returns c = circuits_are_read_again c.each_text_has_an_answer.ensures
