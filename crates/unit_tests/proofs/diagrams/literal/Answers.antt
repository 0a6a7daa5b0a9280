use Rattle.bdd_core.proofs.Asking.{keeps_then}
use Rattle.unit_tests.proofs.diagrams.literal.Goals as goal

-- src/diagrams.rt:13:1
pub returns-else-is_plain-clause-keeps : goal.returns-else-is_plain-clause-keeps
returns-else-is_plain-clause-keeps c = keeps_then c.args.diagrams.now c.variable.new.self c.apply.new.self c.variable.ensures.keeps c.apply.ensures.keeps
