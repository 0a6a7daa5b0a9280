use Rattle.vbe_laws.proofs.Few.{source_has_few}
use Rattle.vbe_laws.proofs.few_names.source_has_few_names.Goals as goal

pub returns : goal.returns
returns c = source_has_few
