use Rattle.delay_sta.proofs.Retiming.{LacksArc}
use Rattle.delay_sta.proofs.exchange.time_between.Given as goal

abbrev pub invariant-loop-own : goal.invariant-loop-own
invariant-loop-own l = LacksArc l.arcs l.from l.to l.own-index
