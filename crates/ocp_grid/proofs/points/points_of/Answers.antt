use Rattle.std.proofs.Common.{map, sym, ap, ◌∙◌}
use Rattle.std.proofs.lemmas.Simd.{map-map}
use Rattle.ocp_place.specs.declared.row.Site.{Site}
use Rattle.ocp_place.specs.Reaches.{site_of}
use Rattle.ocp_grid.specs.Sites.{point_node}
use Rattle.ocp_grid.proofs.Sites.{pins_on}
use Rattle.ocp_grid.proofs.points.points_of.Goals as goal

pub pin_nodes-requires : goal.pin_nodes-requires
pin_nodes-requires c = pins_on c.args.ends.now c.net_pins.result.now c.args.ports c.args.k c.requires.grid c.net_pins.ensures.points

pub returns-clause-terminals : goal.returns-clause-terminals
returns-clause-terminals c =
    c.in_ok-terminals.ensures
    ∙ sym (map-map (point_node 2) (λ (s : Site). (site_of s).1) c.net_pins.result.now)
    ∙ ap (map (point_node 2)) c.net_pins.ensures.points
