use Rattle.bdd_core.proofs.OnTheWay.{IsOnTheWay}
use Rattle.bdd_core.proofs.picking.bits_of_one.Given as goal

abbrev pub invariant-loop-variable : goal.invariant-loop-variable
invariant-loop-variable l = IsOnTheWay l.table l.start l.at l.variable l.bits.items
