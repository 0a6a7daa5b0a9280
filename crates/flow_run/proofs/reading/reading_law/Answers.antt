use Rattle.flow_run.proofs.NeverRefused.{never_refused}
use Rattle.flow_run.proofs.reading.reading_law.Goals as goal

pub returns : goal.returns
returns c =
    never_refused c.never_both.ensures c.never_both-2.ensures c.never_both-3.ensures c.machines_are_the_same.ensures.size c.roots_are_the_same.ensures.within c.encoded_law.ensures.one
    c.library_is_never_refused.ensures c.libraries_are_same.ensures.covers c.covered_lacks_nothing.ensures
