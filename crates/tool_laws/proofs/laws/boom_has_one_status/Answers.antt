use Rattle.tool_laws.proofs.Sources as lemma
use Rattle.tool_laws.proofs.laws.boom_has_one_status.Goals as goal

pub returns : goal.returns
returns c = lemma.boom_has_one_status c.never_both.ensures c.one_refusal.ensures c.machines_are_the_same.ensures.size c.roots_are_the_same.ensures.roots c.roots_are_the_same.ensures.within
