use Rattle.tool_laws.proofs.Sources as lemma
use Rattle.tool_laws.proofs.laws.syf_has_one_status.Goals as goal

pub returns : goal.returns
returns c = lemma.syf_has_one_status c.never_both.ensures c.one_refusal.ensures
