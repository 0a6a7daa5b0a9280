use Rattle.std.proofs.Common.{◌≡◌, ℕ, ◌<◌, true}
use Rattle.lvx_compare.specs.Stages.{mark_at}
use Rattle.lvx_compare.proofs.faults.odd_port.Given as goal

abbrev pub invariant-loop-k : goal.invariant-loop-k
invariant-loop-k l = (j : ℕ) → j < l.k → mark_at l.marks l.classes j ≡ true
