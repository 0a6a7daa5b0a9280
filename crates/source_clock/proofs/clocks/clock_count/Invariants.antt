use Rattle.std.proofs.Common.{◌≡◌, ◌+◌, ◌≤◌, drop, length}
use Rattle.source_checks.specs.Clock.{clocks_among}
use Rattle.source_clock.proofs.Texts.{trees}
use Rattle.source_clock.proofs.clocks.clock_count.Given as goal

abbrev pub invariant-loop-part : goal.invariant-loop-part
invariant-loop-part l =
    record {
      below : l.count ≤ l.part-index;
      counted : l.count + length (clocks_among l.clock (trees (drop l.part-index l.parts))) ≡ length (clocks_among l.clock (trees l.parts));
    }
