use Rattle.std.proofs.Common.{◌≡◌, Some, drop}
use Rattle.source_checks.specs.Clock.{none_reads}
use Rattle.source_clock.proofs.Texts.{trees}
use Rattle.source_clock.proofs.clocks.none_reads.Given as goal

abbrev pub invariant-loop-condition : goal.invariant-loop-condition
invariant-loop-condition l =
    none_reads (Some l.clock) (trees (drop l.condition-index l.conditions)) ≡ none_reads (Some l.clock) (trees l.conditions)
