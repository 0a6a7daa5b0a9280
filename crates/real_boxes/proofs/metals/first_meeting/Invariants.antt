use Rattle.std.proofs.Common.{ℕ, ◌<◌}
use Rattle.real_boxes.specs.Metals.{AreUnlike}
use Rattle.s2r_cif.proofs.Firsts.{pair_at}
use Rattle.real_boxes.proofs.metals.first_meeting.Given as goal

abbrev pub invariant-loop-pair : goal.invariant-loop-pair
invariant-loop-pair l = (k : ℕ) → k < l.pair-index → AreUnlike l.these l.others (pair_at l.near k).first (pair_at l.near k).second → ⊥
