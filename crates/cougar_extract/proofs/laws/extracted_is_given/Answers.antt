use Rattle.cougar_extract.proofs.Given.{extracted_is_given}
use Rattle.cougar_extract.proofs.laws.extracted_is_given.Goals as goal

pub returns : goal.returns
returns c = extracted_is_given
