use Rattle.druc_rules.proofs.Standard.{standard_is_meant}
use Rattle.druc_rules.proofs.laws.standard_rules_law.Goals as goal

pub returns : goal.returns
returns c = standard_is_meant
