use Rattle.net_flat.proofs.Texts as texts
use Rattle.net_flat.proofs.law.named_has_words.Goals as goal

pub returns : goal.returns
returns c = texts.named_has_words
