use Rattle.cell_pins.proofs.Tables.{libraries_have_tables}
use Rattle.cell_pins.proofs.laws.libraries_have_tables.Goals as goal

pub returns : goal.returns
returns c = libraries_have_tables
