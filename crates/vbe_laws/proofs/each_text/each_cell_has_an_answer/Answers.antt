use Rattle.vbe_laws.proofs.CellTexts.{each_cell}
use Rattle.vbe_laws.proofs.each_text.each_cell_has_an_answer.Goals as goal

pub returns : goal.returns
returns c = each_cell
