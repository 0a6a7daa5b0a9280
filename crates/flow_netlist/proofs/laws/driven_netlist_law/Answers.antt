use Rattle.flow_netlist.proofs.Good.{is_good, is_drawable}
use Rattle.flow_netlist.proofs.laws.driven_netlist_law.Goals as goal

pub returns-clause-good : goal.returns-clause-good
returns-clause-good c = λ l m fanout k delay y passed checked d seen.
    is_good c.driven_law.ensures.grown c.driven_law.ensures.chosen c.driven_law.ensures.joins_nothing c.driven_law.ensures.inputs c.driven_law.ensures.needed
    c.limited_law.ensures c.tightness_is_kept.ensures l m fanout k delay y passed checked d seen

pub returns-clause-drawable : goal.returns-clause-drawable
returns-clause-drawable c = λ list files l m fanout k delay library checked declared small d.
    is_drawable c.driven_law.ensures.grown c.driven_law.ensures.chosen c.driven_law.ensures.pins c.library_law.ensures.passes c.catal_is_named.ensures
    c.names_are_short.ensures.catal c.netlist_law.ensures.writable c.netlist_law.ensures.short list files l m fanout k delay library checked declared small d
