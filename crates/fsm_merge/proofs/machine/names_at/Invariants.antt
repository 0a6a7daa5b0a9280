use Rattle.std.proofs.Common.{◌≡◌, ◌++◌, drop}
use Rattle.fsm_merge.specs.Merged.{names_at}
use Rattle.fsm_merge.proofs.machine.names_at.Given as goal

-- what was made, and the names at the places that are left
abbrev pub invariant-loop-place : goal.invariant-loop-place
invariant-loop-place l = l.made.items ++ names_at l.names (drop l.place-index l.places) ≡ names_at l.names l.places
