use Rattle.asimut_run.proofs.Contents.{answers_both, changes_no_file}
use Rattle.asimut_run.proofs.laws.asimut_law.Goals as goal

pub returns-clause-answers : goal.returns-clause-answers
returns-clause-answers c = λ command told r h. answers_both command told r h

pub returns-clause-files : goal.returns-clause-files
returns-clause-files c = λ command before now s h. changes_no_file command before now s h
