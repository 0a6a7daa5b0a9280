use Rattle.std.proofs.Common.{◌≡◌, ℕ, ◌+◌, take, get_or}
use Rattle.cell_match.specs.Places.{times}
use Rattle.boog_tight.proofs.uses.count_off.Given as goal

abbrev pub invariant-loop-leaf : goal.invariant-loop-leaf
invariant-loop-leaf l = (x : ℕ) → get_or l.counts x 0 + times x (take l.leaf-index l.leaves) ≡ get_or l.initial.counts x 0
