use Rattle.tool_laws.proofs.Lvx as lemma
use Rattle.tool_laws.proofs.laws.lvx_has_one_status.Goals as goal

pub returns : goal.returns
returns c = lemma.lvx_has_one_status c.library_is_never_refused.ensures c.one_refusal.ensures.library c.tables_are_one.ensures c.one_netlist.ensures c.never_both.ensures
    c.one_refusal-2.ensures
