use Rattle.cougar_extract.proofs.Given.{extracted_has_pins, extracted_fits}
use Rattle.cougar_extract.proofs.laws.extracted_fits.Goals as goal

pub returns-clause-pins : goal.returns-clause-pins
returns-clause-pins c = extracted_has_pins

pub returns-clause-fits : goal.returns-clause-fits
returns-clause-fits c = extracted_fits
