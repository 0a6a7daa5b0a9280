use Rattle.std.proofs.Common.{◌≡◌, ◌++◌, map, drop}
use Rattle.pat_io.specs.Digits.{pattern_for}
use Rattle.pat_io.proofs.build.pattern_list.Given as goal

abbrev pub invariant-loop-parsed : goal.invariant-loop-parsed
invariant-loop-parsed l = l.patterns.items ++ map (pattern_for l.columns) (drop l.parsed-index l.list) ≡ map (pattern_for l.columns) l.list
