use Rattle.std.proofs.Common.{◌≡◌, ◌<◌, [], ℕ, length}
use Rattle.std.specs.List.{slice_index_or}
use Rattle.fmi_min.specs.Tests.{TellsApart, kept_at}
use Rattle.fmi_min.proofs.tests.tests_with.Given as goal

-- the tests so far
abbrev pub invariant-loop-p : goal.invariant-loop-p
invariant-loop-p l = record {
  each : length l.row.items ≡ l.p;
  told : (k : ℕ) → k < length l.row.items
      → TellsApart l.by.rows.now l.by.levels.now (kept_at l.by.levels.now k) (kept_at l.by.levels.now l.q) (slice_index_or l.row.items k []);
}
