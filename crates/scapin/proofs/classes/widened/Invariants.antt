use Rattle.std.proofs.Common.{◌≡◌, ◌++◌, drop}
use Rattle.scapin.proofs.classes.widened.Given as goal

abbrev pub invariant-loop-class : goal.invariant-loop-class
invariant-loop-class l = l.wider.items ++ drop l.class-index l.classes ≡ l.classes
