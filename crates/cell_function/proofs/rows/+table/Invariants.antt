use Rattle.std.proofs.Common.{◌+◌, ◌*◌}
use Rattle.cell_function.proofs.rows.+table.Given as goal

-- the two go by how many inputs are left
abbrev pub decreases-split : goal.decreases-split
decreases-split l = 2 * l.left

abbrev pub decreases-halves : goal.decreases-halves
decreases-halves l = 2 * l.left + 1
