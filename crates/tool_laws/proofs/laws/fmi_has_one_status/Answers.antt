use Rattle.tool_laws.proofs.Sources as lemma
use Rattle.tool_laws.proofs.laws.fmi_has_one_status.Goals as goal

pub returns : goal.returns
returns c = lemma.fmi_has_one_status c.one_fsm.ensures c.never_both.ensures c.one_refusal.ensures
