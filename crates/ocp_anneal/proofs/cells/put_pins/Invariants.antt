use Rattle.std.proofs.Common.{◌≡◌, ◌++◌, take}
use Rattle.ocp_anneal.specs.Cells.{reached_pins}
use Rattle.ocp_anneal.proofs.cells.put_pins.Given as goal

abbrev pub invariant-loop-reach : goal.invariant-loop-reach
invariant-loop-reach l = l.pins.items ≡ l.initial.pins.items ++ reached_pins l.cell l.classes (take l.reach-index l.reached)
