use Rattle.std.proofs.Common.{◌≡◌, take}
use Rattle.net_core.specs.Links.{pieces_from}
use Rattle.net_core.proofs.Linking.{node_links}
use Rattle.net_core.proofs.links.links.Given as goal

abbrev pub invariant-loop-owner : goal.invariant-loop-owner
invariant-loop-owner l = l.links.items ≡ pieces_from (node_links l.table l.models l.classes) 0 (take l.owner l.nodes)
