use Rattle.std.proofs.Common.{All}
use Rattle.cell_model.specs.Usable.{IsFormed}
use Rattle.cougar_extract.proofs.Wholes.{of_library}
use Rattle.s2r_cif.proofs.making.to_real.Goals as goal

pub real_of-requires-clause-formed : goal.real_of-requires-clause-formed
real_of-requires-clause-formed c = of_library c.cells.result.now c.args.library.now c.cells.ensures.value (All IsFormed) c.cells.ensures.checked.formed
