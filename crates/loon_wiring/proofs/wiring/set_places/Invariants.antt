use Rattle.std.proofs.Common.{◌≡◌, drop, length}
use Rattle.loon_wiring.specs.Stages.{set_places}
use Rattle.loon_wiring.proofs.wiring.set_places.Given as goal

abbrev pub invariant-loop-place : goal.invariant-loop-place
invariant-loop-place l = record {
  classes : set_places l.classes (drop l.place-index l.places) l.class ≡ set_places l.initial.classes l.places l.class;
  many : length l.classes ≡ length l.initial.classes;
}
