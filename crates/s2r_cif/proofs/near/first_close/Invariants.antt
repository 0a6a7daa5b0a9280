use Rattle.std.proofs.Common.{ℕ, ◌<◌}
use Rattle.s2r_cif.specs.Refused.{AreNear}
use Rattle.s2r_cif.proofs.Firsts.{pair_at}
use Rattle.s2r_cif.proofs.near.first_close.Given as goal

abbrev pub invariant-loop-pair : goal.invariant-loop-pair
invariant-loop-pair l = (k : ℕ) → k < l.pair-index → AreNear l.table l.shapes (pair_at l.near k).first (pair_at l.near k).second → ⊥
