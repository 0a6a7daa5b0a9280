use Rattle.std.proofs.Common.{◌≡◌, ◌++◌, map, drop}
use Rattle.pat_io.specs.Digits.{column_of}
use Rattle.pat_io.proofs.build.columns.Given as goal

abbrev pub invariant-loop-parsed : goal.invariant-loop-parsed
invariant-loop-parsed l = l.columns.items ++ map column_of (drop l.parsed-index l.list) ≡ map column_of l.list
