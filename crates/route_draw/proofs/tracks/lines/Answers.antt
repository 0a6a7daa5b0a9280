use Rattle.std.proofs.Common.{◌≡◌, ℕ, ◌++◌, List, ap, ◌∙◌, map}
use Rattle.vlsi_base.specs.declared.name.Name.{Name}
use Rattle.vlsi_base.specs.declared.name.Port.{Port}
use Rattle.net_core.specs.Frame.{instance_of}
use Rattle.net_core.specs.Netlist.{Instance}
use Rattle.ocp_rows.specs.Placement.{supply_ports, track_ports}
use Rattle.route_draw.specs.Pieces.{signal_names, instance_lines, row_supplies, all_lines}
use Rattle.route_draw.proofs.Lists.{joined}
use Rattle.route_draw.proofs.tracks.lines.Goals as goal

pub returns : goal.returns
returns c =
    let n = c.args.netlist.now in
    let first = c.push_supply_ports.new.items in
    let second = c.push_track_ports.new.items in
    let third = c.push_instances.new.items in
    let fourth = c.push_supplies.new.items in
    let signals : signal_names c.ports.result.now ≡ signal_names n.ports = ap (λ (ports : List Port). signal_names ports) c.ports.ensures in
    let instances : map (instance_of c.models.result.now) c.nodes.result.now ≡ n.instances =
    ap (λ (models : List (List ℕ)). map (instance_of models) c.nodes.result.now) c.models.ensures ∙ c.nodes.ensures.seen in
    joined c.new.result.items c.new-items.result first second third fourth c.push_nets.new.items supply_ports (track_ports 0 (signal_names n.ports))
    (instance_lines n.instances c.args.placement.now.starts) (row_supplies c.args.placement.now.width) (all_lines 0 (signal_names n.ports) c.args.placement.now c.args.tracks.now)
    c.new.ensures.items
    c.new-items.ensures
    c.in_ok-push_supply_ports.ensures
    (c.in_ok-push_track_ports.ensures ∙ ap (λ (names : List Name). first ++ track_ports 0 names) (c.deref.ensures.value ∙ c.in_ok-names.ensures ∙ signals))
    (c.in_ok-push_instances.ensures ∙ ap (λ (is : List Instance). second ++ instance_lines is c.starts.result.now) instances
    ∙ ap (λ (xs : List ℕ). second ++ instance_lines n.instances xs) c.starts.ensures.starts)
    (c.in_ok-push_supplies.ensures ∙ ap (λ (w : ℕ). third ++ row_supplies w) c.width.ensures.width)
    (c.in_ok-push_nets.ensures ∙ ap (λ (names : List Name). fourth ++ all_lines 0 names c.args.placement.now c.args.tracks.now) (c.deref-2.ensures.value ∙ c.in_ok-names.ensures ∙ signals))
