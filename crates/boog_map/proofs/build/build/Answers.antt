use Rattle.std.proofs.Common.{◌∙◌, List, ap, sym, subst, map}
use Rattle.net_core.specs.Joins.{draft_terminals}
use Rattle.boog_map.specs.declared.place.Spot.{Spot}
use Rattle.boog_map.specs.declared.ports.TiedPort.{TiedPort}
use Rattle.boog_map.specs.Draft.{instance_of, with_instances, with_joins, join_of, port_signals, CanJoin}
use Rattle.boog_map.proofs.Joining.{placed_is, ports_lent, spots_lent}
use Rattle.boog_map.proofs.build.build.Goals as goal

pub join_ports-requires : goal.join_ports-requires
join_ports-requires c =
    let k = c.args.sketch.now in
    let added = c.in_ok-add_spots.ensures ∙ ap (λ (xs : List Spot). with_instances c.in_ok-builder.builder (map (instance_of k.parts) xs)) c.deref.ensures.value in
    let placed = placed_is c.args.name c.args.ports k c.requires c.in_ok-builder.builder c.add_spots.new.builder c.in_ok-builder.ensures added in
    subst (λ (ps : List TiedPort). CanJoin (draft_terminals c.add_spots.new.builder) k.drivers (port_signals ps)) (sym c.deref-2.ensures.value)
    (ports_lent c.args.name c.args.ports k c.requires c.add_spots.new.builder placed)

pub join_spots-requires : goal.join_spots-requires
join_spots-requires c =
    let k = c.args.sketch.now in
    let added = c.in_ok-add_spots.ensures ∙ ap (λ (xs : List Spot). with_instances c.in_ok-builder.builder (map (instance_of k.parts) xs)) c.deref.ensures.value in
    let placed = placed_is c.args.name c.args.ports k c.requires c.in_ok-builder.builder c.add_spots.new.builder c.in_ok-builder.ensures added in
    let joined =
    c.in_ok-join_ports.ensures ∙ ap (λ (ps : List TiedPort). with_joins c.add_spots.new.builder (map (join_of k.drivers) (port_signals ps))) c.deref-2.ensures.value in
    spots_lent c.args.name c.args.ports k c.requires c.add_spots.new.builder c.join_ports.new.builder placed joined
