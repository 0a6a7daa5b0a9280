use Rattle.std.proofs.Common.{◌≡◌, []}
use Rattle.source_checks.specs.Checks.{first_repeated}
use Rattle.source_checks.proofs.Repeats.{repeated_from}
use Rattle.source_checks.proofs.twice.repeated.Given as goal

abbrev pub invariant-loop-k : goal.invariant-loop-k
invariant-loop-k l = repeated_from l.table [] l.k ≡ first_repeated [] l.table
