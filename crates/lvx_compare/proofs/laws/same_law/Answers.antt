use Rattle.lvx_compare.proofs.Lawful.{same_is_equivalence, same_by_name_is_same, one_layout_is_same}
use Rattle.lvx_compare.proofs.laws.same_law.Goals as goal

pub returns-clause-equivalence : goal.returns-clause-equivalence
returns-clause-equivalence c = same_is_equivalence

pub returns-clause-named : goal.returns-clause-named
returns-clause-named c = same_by_name_is_same

pub returns-clause-drawn : goal.returns-clause-drawn
returns-clause-drawn c = one_layout_is_same
