use Rattle.tool_laws.proofs.Tables as lemma
use Rattle.tool_laws.proofs.laws.tables_are_one.Goals as goal

pub returns : goal.returns
returns c = lemma.tables_are_one c.cell_is_machine.ensures c.machines_are_the_same.ensures.parts c.libraries_are_same.ensures.cells
