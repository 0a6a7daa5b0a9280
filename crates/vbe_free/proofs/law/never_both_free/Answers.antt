use Rattle.vbe_free.proofs.Texts.{never_both}
use Rattle.vbe_free.proofs.law.never_both_free.Goals as goal

pub returns : goal.returns
returns c = never_both
