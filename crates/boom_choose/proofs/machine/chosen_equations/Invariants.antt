use Rattle.std.proofs.Common.{map, take}
use Rattle.machine_core.specs.View.{equation_view}
use Rattle.boom_choose.specs.Choice.{AreChosen}
use Rattle.boom_choose.proofs.machine.chosen_equations.Given as goal

abbrev pub invariant-loop-k : goal.invariant-loop-k
invariant-loop-k l = AreChosen l.m.low (take l.k l.m.low.equations) (take l.k l.m.high.equations) (map equation_view l.made.items)
