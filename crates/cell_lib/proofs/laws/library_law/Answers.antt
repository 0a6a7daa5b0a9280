use Rattle.cell_lib.proofs.Lawful.{passes, plain}
use Rattle.cell_lib.proofs.laws.library_law.Goals as goal

pub returns-clause-passes : goal.returns-clause-passes
returns-clause-passes c = λ tracks list files l h. passes tracks list files l h

pub returns-clause-plain : goal.returns-clause-plain
returns-clause-plain c = λ tracks list files l h. plain tracks list files l h
