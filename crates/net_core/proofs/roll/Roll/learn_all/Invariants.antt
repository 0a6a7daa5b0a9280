use Rattle.net_core.proofs.Learning.{AreLearned}
use Rattle.net_core.proofs.roll.Roll.learn_all.Given as goal

abbrev pub invariant-loop-text : goal.invariant-loop-text
invariant-loop-text l = AreLearned l.initial.self l.self l.texts l.text-index
