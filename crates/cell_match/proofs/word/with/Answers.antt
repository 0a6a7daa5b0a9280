use Rattle.cell_match.proofs.word.with.Goals as goal

pub returns : goal.returns
returns c = λ w there few. c.cofactor.ensures w there few
