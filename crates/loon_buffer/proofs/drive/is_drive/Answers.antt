use Rattle.std.proofs.Common.{sym, subst}
use Rattle.cell_model.specs.Cell.{Function}
use Rattle.loon_buffer.specs.Drives.{IsNarrow}
use Rattle.loon_buffer.proofs.Vectors.{narrow}
use Rattle.loon_buffer.proofs.drive.is_drive.Goals as goal

pub same_functions-requires-clause-one : goal.same_functions-requires-clause-one
same_functions-requires-clause-one c = subst (λ (f : Function). IsNarrow f) (sym c.as_enum.ensures) (narrow c.args.cell.now c.requires.cell)

pub same_functions-requires-clause-other : goal.same_functions-requires-clause-other
same_functions-requires-clause-other c = subst (λ (f : Function). IsNarrow f) (sym c.as_enum-then-same_pins.ensures) (narrow c.args.other.now c.requires.other)
