use Rattle.tool_laws.proofs.Covering as lemma
use Rattle.tool_laws.proofs.laws.area_has_one_status.Goals as goal

pub returns : goal.returns
returns c = lemma.area_has_one_status c.never_both.ensures c.one_refusal.ensures c.machines_are_the_same.ensures.size c.library_is_never_refused.ensures
    c.one_refusal-2.ensures.library c.libraries_are_same.ensures.covers
