use Rattle.vbe_laws.proofs.Designs.{each_design}
use Rattle.vbe_laws.proofs.each_text.each_design_has_an_answer.Goals as goal

pub returns : goal.returns
returns c = each_design
