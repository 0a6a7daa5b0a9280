use Rattle.std.proofs.Common.{◌≡◌, drop}
use Rattle.std.specs.Option.{option_copied}
use Rattle.source_checks.specs.Lines.{first_line}
use Rattle.source_checks.specs.Places.{in_alternatives}
use Rattle.source_checks.specs.Clock.{clock_lines}
use Rattle.source_clock.proofs.reads.clock_line_in_alternatives.Given as goal

abbrev pub invariant-loop-guarded : goal.invariant-loop-guarded
invariant-loop-guarded l =
    first_line (in_alternatives (clock_lines (option_copied l.clock)) (λ line e. clock_lines (option_copied l.clock) e) (drop l.guarded-index l.alternatives)) ≡ first_line (in_alternatives (clock_lines (option_copied l.clock)) (λ line e. clock_lines (option_copied l.clock) e) l.alternatives)
