use Rattle.vbe_free.proofs.Texts.{few_ports, has_few}
use Rattle.vbe_free.proofs.law.free_source_has_few_names.Goals as goal

pub returns-clause-names : goal.returns-clause-names
returns-clause-names c = has_few

pub returns-clause-ports : goal.returns-clause-ports
returns-clause-ports c = few_ports
