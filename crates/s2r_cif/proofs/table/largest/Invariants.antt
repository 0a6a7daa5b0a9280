use Rattle.std.proofs.Common.{ℕ, ◌<◌, ◌≤◌, get_or}
use Rattle.s2r_cif.specs.declared.table.TheConstants.{MOST_GROW}
use Rattle.s2r_cif.proofs.table.largest.Given as goal

abbrev pub invariant-loop-number : goal.invariant-loop-number
invariant-loop-number l = record {
  each : (k : ℕ) → k < l.number-index → get_or l.numbers k 0 ≤ l.most;
  most : l.most ≤ MOST_GROW;
}
