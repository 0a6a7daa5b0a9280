use Rattle.text_names.proofs.Enough.{are_free, are_words}
use Rattle.text_names.proofs.law.texts_are_free.Goals as goal

pub returns-clause-free : goal.returns-clause-free
returns-clause-free c = are_free

pub returns-clause-words : goal.returns-clause-words
returns-clause-words c = are_words
