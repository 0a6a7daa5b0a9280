use Rattle.std.proofs.Common.{◌≡◌, take, map}
use Rattle.net_core.specs.Links.{owner_name}
use Rattle.net_core.proofs.cycle.owner_names.Given as goal

abbrev pub invariant-loop-link : goal.invariant-loop-link
invariant-loop-link l = l.names.items ≡ map (owner_name l.nodes) (take l.link-index l.links)
