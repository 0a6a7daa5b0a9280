use Rattle.flow_run.proofs.OneStatus.{files_once}
use Rattle.flow_run.proofs.decided.files_have_one_refusal.Goals as goal

pub returns : goal.returns
returns c =
    files_once c.never_both.ensures c.never_both-2.ensures c.never_both-3.ensures c.one_refusal.ensures c.one_refusal-2.ensures c.one_refusal-3.ensures
    c.machines_are_the_same.ensures.size c.encoded_law.ensures.one c.one_refusal-4.ensures.library c.library_is_never_refused.ensures c.machines_are_the_same.ensures.parts
    c.roots_are_the_same.ensures.roots c.libraries_are_same.ensures.covers c.covered_lacks_nothing.ensures
