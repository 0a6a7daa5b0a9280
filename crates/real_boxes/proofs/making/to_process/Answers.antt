use Rattle.std.proofs.Common.{All}
use Rattle.cell_model.specs.Usable.{IsFormed}
use Rattle.cougar_extract.proofs.Wholes.{of_library}
use Rattle.real_boxes.proofs.making.to_process.Goals as goal

pub process_of-requires-clause-formed : goal.process_of-requires-clause-formed
process_of-requires-clause-formed c = of_library c.cells.result.now c.args.library.now c.cells.ensures.value (All IsFormed) c.cells.ensures.checked.formed
