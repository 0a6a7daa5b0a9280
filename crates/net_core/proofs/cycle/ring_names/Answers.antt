use Rattle.std.proofs.Common.{◌<◌, List, length, sym, subst}
use Rattle.std.specs.List.{All}
use Rattle.net_core.specs.declared.links.Link.{Link}
use Rattle.net_core.proofs.Rings.{chosen_owners}
use Rattle.net_core.proofs.cycle.ring_names.Goals as goal

pub owner_names-requires : goal.owner_names-requires
owner_names-requires c =
    subst (λ (ls : List Link). All (λ l. l.owner < length c.args.nodes.now) ls) (sym c.deref.ensures.value)
    (chosen_owners c.args.groups.now c.args.ring.now c.in_ok-chosen.chosen.items (length c.args.nodes.now) c.requires.ring c.in_ok-chosen.ensures c.requires.owners)
