use Rattle.std.proofs.Common.{◌≡◌, ◌++◌, drop}
use Rattle.pat_io.specs.Digits.{values_for}
use Rattle.pat_io.proofs.build.values.Given as goal

abbrev pub invariant-loop-k : goal.invariant-loop-k
invariant-loop-k l = l.values.items ++ values_for (drop l.k l.columns) (drop l.k l.list) ≡ values_for l.columns l.list
