use Rattle.vhdl_print.proofs.Again.{entity_is_read_again}
use Rattle.vhdl_print.proofs.law.entity_is_read_again.Goals as goal

pub returns : goal.returns
returns c = entity_is_read_again
