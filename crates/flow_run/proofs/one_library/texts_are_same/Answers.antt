use Rattle.flow_run.proofs.Texts.{same_texts}
use Rattle.flow_run.proofs.one_library.texts_are_same.Goals as goal

pub returns : goal.returns
returns c = same_texts c.cells_are_the_same.ensures c.machines_do_the_same.ensures.settling c.machines_do_the_same.ensures.equations
