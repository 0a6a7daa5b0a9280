use Rattle.net_right.proofs.Seen.{right_is_well_formed, seen_is_well_formed}
use Rattle.net_right.proofs.right_is_well_formed.Goals as goal

pub returns-clause-known : goal.returns-clause-known
returns-clause-known c = right_is_well_formed

pub returns-clause-seen : goal.returns-clause-seen
returns-clause-seen c = seen_is_well_formed
