use Rattle.std.proofs.Common.{◌≡◌, ◌+◌, drop}
use Rattle.boog_map.specs.Tied.{name_place}
use Rattle.boog_map.proofs.part.name_place.Given as goal

abbrev pub invariant-loop-place : goal.invariant-loop-place
invariant-loop-place l = name_place l.name l.names ≡ l.place + name_place l.name (drop l.place l.names)
