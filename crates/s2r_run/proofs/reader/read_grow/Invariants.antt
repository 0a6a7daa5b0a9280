use Rattle.std.proofs.Common.{◌≡◌, ℕ, ◌+◌, ◌<◌, length, get_or}
use Rattle.s2r_cif.specs.declared.table.TheConstants.{MOST_GROW}
use Rattle.real_table.specs.Fields.{IsNumberIn, fields_of, at}
use Rattle.s2r_run.proofs.reader.read_grow.Given as goal

abbrev pub invariant-loop-place : goal.invariant-loop-place
invariant-loop-place l = record {
  count : length l.grow ≡ 6;
  numbers : (k : ℕ) → k < l.place → IsNumberIn 0 MOST_GROW (at (fields_of l.line) (k + 1)) (get_or l.grow k 0);
}
