use Rattle.std.proofs.Common.{◌≡◌, drop}
use Rattle.machine_core.specs.Named.{value_at}
use Rattle.cell_function.proofs.shape.value_at.Given as goal

abbrev pub invariant-loop-k : goal.invariant-loop-k
invariant-loop-k l = value_at (drop l.k l.names) (drop l.k l.bits) l.name ≡ value_at l.names l.bits l.name
