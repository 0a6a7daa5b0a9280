use Rattle.std.proofs.Common.{◌≡◌, ℕ, Some, map, take}
use Rattle.std.specs.Prelude.{option_map, slice_get}
use Rattle.cougar_extract.specs.Refused.{step_of}
use Rattle.cougar_extract.proofs.shorts.steps.Given as goal

abbrev pub invariant-loop-place : goal.invariant-loop-place
invariant-loop-place l = map Some l.steps.items ≡ map (λ (k : ℕ). option_map step_of (slice_get l.shapes k)) (take l.place-index l.places)
