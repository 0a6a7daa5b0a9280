use Rattle.std.proofs.Common.{◌≡◌, ◌<◌, ℕ, slice_index}
use Rattle.row_anneal.proofs.fair.are_one.Given as goal

abbrev pub invariant-loop-count : goal.invariant-loop-count
invariant-loop-count l = (c : ℕ) → c < l.count-index → slice_index l.counts c ≡ 1
