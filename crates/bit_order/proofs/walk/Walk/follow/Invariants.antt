use Rattle.bit_order.specs.Walk.{IsWalkOf, Keeps, turns_left}
use Rattle.bit_order.proofs.Turning.{lists}
use Rattle.bit_order.proofs.walk.Walk.follow.Given as goal

abbrev pub invariant-loop-self : goal.invariant-loop-self
invariant-loop-self l = record { walk : IsWalkOf (lists l.reads) l.self; keeps : Keeps l.initial.self l.self }

abbrev pub decreases-loop-self : goal.decreases-loop-self
decreases-loop-self l = turns_left (lists l.reads) l.self
