use Rattle.std.proofs.Common.{◌≡◌, drop}
use Rattle.fsm_io.specs.Pieces.{mark_each}
use Rattle.fsm_io.proofs.drivers.mark_all.Given as goal

abbrev pub invariant-loop-place : goal.invariant-loop-place
invariant-loop-place l = mark_each l.marks.items (drop l.place-index l.places) ≡ mark_each l.initial.marks.items l.places
