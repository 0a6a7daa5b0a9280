use Rattle.std.proofs.Common.{ℕ, ◌<◌, false}
use Rattle.net_flat.specs.Nodes.{IsOtherAt}
use Rattle.net_flat.proofs.parts.first_other.Given as goal

abbrev pub invariant-loop-k : goal.invariant-loop-k
invariant-loop-k l = (j : ℕ) → j < l.k → IsOtherAt l.nodes l.parts j false
