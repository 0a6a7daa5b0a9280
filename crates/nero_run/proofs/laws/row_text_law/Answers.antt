use Rattle.nero_run.proofs.Texts.{routed_text_is_lines, stuck_text_is_lines}
use Rattle.nero_run.proofs.laws.row_text_law.Goals as goal

pub returns-clause-routed : goal.returns-clause-routed
returns-clause-routed c = routed_text_is_lines c.grid_drawing_can_be_written.ensures c.lines_are_read_again.ensures

pub returns-clause-stuck : goal.returns-clause-stuck
returns-clause-stuck c = stuck_text_is_lines c.marked_drawing_can_be_written.ensures c.lines_are_read_again.ensures
