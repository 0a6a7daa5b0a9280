use Rattle.std.proofs.Common.{◌≡◌, ℕ, ◌<◌, get_or, true, false, []}
use Rattle.nero_tracks.specs.Columns.{HasOwnColumns}
use Rattle.nero_tracks.proofs.columns.check_columns.Given as goal

abbrev pub invariant-loop-k : goal.invariant-loop-k
invariant-loop-k l = (j : ℕ) → j < l.k → get_or l.in_use.items j false ≡ true → HasOwnColumns l.library (get_or l.models j [])
