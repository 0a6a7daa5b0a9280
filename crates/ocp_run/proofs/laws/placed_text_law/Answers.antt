use Rattle.ocp_run.proofs.Reading.{placed_text_is_lines}
use Rattle.ocp_run.proofs.laws.placed_text_law.Goals as goal

pub returns : goal.returns
returns c = placed_text_is_lines c.placed_drawing_can_be_written.ensures c.lines_are_read_again.ensures
