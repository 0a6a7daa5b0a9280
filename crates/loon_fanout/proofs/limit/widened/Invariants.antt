use Rattle.std.proofs.Common.{◌≡◌, ◌++◌, drop}
use Rattle.loon_fanout.proofs.limit.widened.Given as goal

abbrev pub invariant-loop-class : goal.invariant-loop-class
invariant-loop-class l = l.wide.items ++ drop l.class-index l.classes ≡ l.classes
