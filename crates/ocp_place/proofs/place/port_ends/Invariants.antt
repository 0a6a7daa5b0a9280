use Rattle.std.proofs.Common.{◌≡◌, ◌++◌, map, drop}
use Rattle.ocp_place.specs.Reaches.{site_of}
use Rattle.ocp_place.specs.Sites.{port_sites}
use Rattle.ocp_place.proofs.place.port_ends.Given as goal

abbrev pub invariant-loop-k : goal.invariant-loop-k
invariant-loop-k l = map site_of l.sites.items ++ port_sites l.k (drop l.k l.ports) ≡ port_sites 0 l.ports
