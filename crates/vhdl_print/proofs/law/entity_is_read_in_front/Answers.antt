use Rattle.vhdl_print.proofs.InFront.{entity_is_read_in_front}
use Rattle.vhdl_print.proofs.law.entity_is_read_in_front.Goals as goal

pub returns : goal.returns
returns c = entity_is_read_in_front
