use Rattle.std.proofs.Common.{◌≡◌, ◌++◌, drop}
use Rattle.vbe_io.specs.Cell.{generic_values}
use Rattle.vbe_io.proofs.cell_text.generic_values.Given as goal

abbrev pub invariant-loop-generic : goal.invariant-loop-generic
invariant-loop-generic l = l.values.items ++ generic_values (drop l.generic-index l.generics) ≡ generic_values l.generics
