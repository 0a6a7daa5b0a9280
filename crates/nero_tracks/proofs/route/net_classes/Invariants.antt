use Rattle.std.proofs.Common.{◌≡◌, ◌++◌, filter, not, take}
use Rattle.ocp_place.specs.Nets.{is_among}
use Rattle.nero_tracks.proofs.route.net_classes.Given as goal

abbrev pub invariant-loop-class : goal.invariant-loop-class
invariant-loop-class l = l.classes.items ≡ take l.class-index l.ports

abbrev pub invariant-loop-class-2 : goal.invariant-loop-class-2
invariant-loop-class-2 l = l.classes.items ≡ l.ports ++ filter (λ class. not (is_among l.ports class)) (take l.class-index l.drivers)
