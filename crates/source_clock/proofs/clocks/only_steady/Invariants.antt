use Rattle.std.proofs.Common.{◌≡◌, ◌++◌, drop}
use Rattle.std.specs.Option.{option_copied, option_to_list}
use Rattle.source_checks.specs.Clock.{steady_names}
use Rattle.source_clock.proofs.Texts.{trees}
use Rattle.source_clock.proofs.clocks.only_steady.Given as goal

abbrev pub invariant-loop-part : goal.invariant-loop-part
invariant-loop-part l =
    option_to_list (option_copied l.found) ++ steady_names (trees (drop l.part-index l.parts)) ≡ steady_names (trees l.parts)
