use Rattle.tool_laws.proofs.Druc as lemma
use Rattle.tool_laws.proofs.laws.druc_has_one_status.Goals as goal

pub returns : goal.returns
returns c = lemma.druc_has_one_status c.library_is_never_refused.ensures c.one_refusal.ensures.library c.libraries_are_same.ensures.cells
