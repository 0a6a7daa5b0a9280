use Rattle.std.proofs.Common.{◌≡◌, ◌<◌, [], ℕ, length}
use Rattle.std.specs.List.{slice_index_or}
use Rattle.fmi_min.specs.Tests.{AreTestsWith}
use Rattle.fmi_min.proofs.tests.all_tests.Given as goal

-- the rows so far
abbrev pub invariant-loop-q : goal.invariant-loop-q
invariant-loop-q l = record {
  each : length l.tests.items ≡ l.q;
  told : (k : ℕ) → k < length l.tests.items → AreTestsWith l.by.rows.now l.by.levels.now k (slice_index_or l.tests.items k []);
}
