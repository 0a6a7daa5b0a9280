use Rattle.std.proofs.Common.{◌≡◌, ◌++◌, take}
use Rattle.net_core.specs.Links.{pieces_from, pin_links}
use Rattle.net_core.proofs.links.push_instance_links.Given as goal

abbrev pub invariant-loop-k : goal.invariant-loop-k
invariant-loop-k l = l.links.items ≡ l.initial.links.items ++ pieces_from (pin_links l.owner l.classes) 0 (take l.k l.pins)
