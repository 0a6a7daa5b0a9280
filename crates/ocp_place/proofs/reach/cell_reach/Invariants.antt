use Rattle.std.proofs.Common.{take}
use Rattle.cell_model.specs.Cell.{pin_ports}
use Rattle.ocp_place.specs.Reaches.{ArePinReaches}
use Rattle.ocp_place.proofs.reach.cell_reach.Given as goal

abbrev pub invariant-loop-k : goal.invariant-loop-k
invariant-loop-k l = ArePinReaches l.cell (take l.k (pin_ports l.cell)) l.pins.items
