use Rattle.std.proofs.Common.{◌≡◌, drop}
use Rattle.cell_function.specs.Timing.{value_of}
use Rattle.cell_function.proofs.timing.value_of.Given as goal

abbrev pub invariant-loop-generic : goal.invariant-loop-generic
invariant-loop-generic l = value_of (drop l.generic-index l.generics) l.name ≡ value_of l.generics l.name
