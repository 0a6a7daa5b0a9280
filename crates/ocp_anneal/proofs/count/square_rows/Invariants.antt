use Rattle.std.proofs.Common.{ℕ, ◌*◌, ◌<◌, ◌≤◌}
use Rattle.ocp_anneal.proofs.count.square_rows.Given as goal

abbrev pub invariant-loop-rows : goal.invariant-loop-rows
invariant-loop-rows l = record { least : (fewer : ℕ) → 1 ≤ fewer → fewer < l.rows → 10 * fewer * fewer < l.columns }
