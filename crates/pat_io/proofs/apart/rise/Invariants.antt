use Rattle.std.proofs.Common.{◌≡◌, ℕ, ◌+◌, ◌<◌, true, get_or}
use Rattle.pat_io.specs.Apart.{comes_before}
use Rattle.pat_io.proofs.apart.rise.Given as goal

abbrev pub invariant-loop-k : goal.invariant-loop-k
invariant-loop-k l = (j : ℕ) (d : _) → j + 1 < l.k → comes_before (get_or l.columns j d).now (get_or l.columns (j + 1) d).now ≡ true
