use Rattle.std.proofs.Common.{◌≡◌, ◌++◌, map, take}
use Rattle.ocp_place.specs.Reaches.{site_of}
use Rattle.ocp_place.specs.Sites.{port_sites}
use Rattle.ocp_place.proofs.place.track_place.Given as goal

abbrev pub invariant-loop-site : goal.invariant-loop-site
invariant-loop-site l = map site_of l.all.items ≡ port_sites 0 l.ports.signals.items ++ map site_of (take l.site-index l.site-items)
