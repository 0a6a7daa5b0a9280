use Rattle.std.proofs.Common.{◌≡◌, ℕ, ◌+◌, ◌<◌, true}
use Rattle.lvx_compare.specs.Stages.{mark_at}
use Rattle.lvx_compare.proofs.faults.are_marked.Given as goal

abbrev pub invariant-loop-k : goal.invariant-loop-k
invariant-loop-k l = (j : ℕ) → j < l.k → mark_at l.marks l.classes (l.first + j) ≡ true
