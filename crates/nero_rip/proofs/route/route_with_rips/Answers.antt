use Rattle.std.proofs.Common.{◌<◌, ◌^◌, List, length, sym, subst}
use Rattle.grid_core.specs.Shown.{tree_in}
use Rattle.vlsi_base.specs.Member.{In}
use Rattle.maze_nets.specs.declared.points.NetPoints.{NetPoints}
use Rattle.maze_rips.specs.declared.rip.PointRip.{PointRip}
use Rattle.maze_rips.specs.Answers.{IsRefusal as IsStopped}
use Rattle.ocp_grid.specs.Points.{ArePointsIn}
use Rattle.ocp_place.proofs.Classes.{known, known_seen}
use Rattle.nero_nets.proofs.Routed.{few_columns, few_nets, few_nodes, routable_all, one_seen}
use Rattle.nero_rip.proofs.Seen.{AreAllNamed, stuck_point, known_rip, rerouted, spent_so}
use Rattle.nero_rip.proofs.route.route_with_rips.Goals as goal

pub grid_over-grid-requires-clause-columns : goal.grid_over-grid-requires-clause-columns
grid_over-grid-requires-clause-columns c =
    few_columns c.args.library.now c.args.netlist.now c.args.placement.now c.requires.placed c.args.metals c.requires.some c.requires.few

pub grid_over-grid-requires-clause-rows : goal.grid_over-grid-requires-clause-rows
grid_over-grid-requires-clause-rows c = (c.requires.placed.rows (known c.args.netlist.now) (known_seen c.args.netlist.now c.requires.placed.drawable.sound)).few

pub net_points-requires-clause-columns : goal.net_points-requires-clause-columns
net_points-requires-clause-columns c =
    few_columns c.args.library.now c.args.netlist.now c.args.placement.now c.requires.placed c.args.metals c.requires.some c.requires.few

pub route_nets_with_rips-requires-clause-few_nodes : goal.route_nets_with_rips-requires-clause-few_nodes
route_nets_with_rips-requires-clause-few_nodes c =
    few_nodes c.args.library.now c.args.netlist.now c.args.placement.now c.args.metals c.requires.placed c.requires.some c.in_ok-points.points.items c.in_ok-points.ensures
    c.grid_over-grid.result c.grid_over-grid.ensures c.requires.few

pub route_nets_with_rips-requires-clause-few : goal.route_nets_with_rips-requires-clause-few
route_nets_with_rips-requires-clause-few c =
    let few = subst (λ cs. length cs < 2 ^ 32) c.classes.ensures.classes c.classes.ensures.few in
    subst (λ (nets : List NetPoints). length nets < 4294967295) (sym c.deref.ensures.value)
    (few_nets c.args.library.now c.args.netlist.now c.args.placement.now c.requires.placed few c.in_ok-points.points.items c.in_ok-points.ensures)

pub route_nets_with_rips-requires-clause-routable : goal.route_nets_with_rips-requires-clause-routable
route_nets_with_rips-requires-clause-routable c =
    routable_all c.args.library.now c.args.netlist.now c.args.placement.now c.args.metals c.requires.placed c.requires.some c.deref.result.now
    (subst (λ nets. ArePointsIn c.args.library.now c.args.netlist.now c.args.placement.now nets) (sym c.deref.ensures.value) c.in_ok-points.ensures)
    c.grid_over-grid.result c.grid_over-grid.ensures c.points_are_apart.ensures c.placements_are_in_rows.ensures

pub name_rips-requires-clause-there : goal.name_rips-requires-clause-there
name_rips-requires-clause-there c = λ r i k seen.
    let l = c.args.library.now in
    let n = c.args.netlist.now in
    let p = c.args.placement.now in
    let nets = c.deref.result.now in
    let are = subst (λ nets. ArePointsIn l n p nets) (sym c.deref.ensures.value) c.in_ok-points.ensures in
    known_rip l n p c.args.metals c.requires.placed c.requires.some nets are c.grid_over-grid.result c.grid_over-grid.ensures c.in-Ok.routed.rips.items (tree_in c.in-Ok.routed.routes)
    c.in-Ok.ensures.routed.run r (subst (λ (rs : List PointRip). In r rs) c.deref-in-Ok.ensures.value i) k seen

pub returns-in-Ok-clause-routed : goal.returns-in-Ok-clause-routed
returns-in-Ok-clause-routed c =
    let l = c.args.library.now in
    let n = c.args.netlist.now in
    let p = c.args.placement.now in
    let nets = c.deref.result.now in
    let are = subst (λ nets. ArePointsIn l n p nets) (sym c.deref.ensures.value) c.in_ok-points.ensures in
    let h = c.in-Ok.ensures.routed in
    let named = c.in_ok-name_rips-in-Ok.field-0 in
    let names : AreAllNamed l n p c.in-Ok.routed.rips.items named =
    subst (λ (rs : List PointRip). AreAllNamed l n p rs named) c.deref-in-Ok.ensures.value c.in_ok-name_rips-in-Ok.ensures in
    rerouted l n p c.args.metals c.requires.placed c.requires.some nets are c.grid_over-grid.result c.grid_over-grid.ensures c.in-Ok.routed.rips.items (tree_in c.in-Ok.routed.routes)
    h.run named names (known n) (one_seen l n p c.requires.placed) c.args.allowed h.few h.trees h.whole

pub terminal_at-requires-clause-there : goal.terminal_at-requires-clause-there
terminal_at-requires-clause-there c = λ k seen.
    let l = c.args.library.now in
    let n = c.args.netlist.now in
    let p = c.args.placement.now in
    let nets = c.deref.result.now in
    let are = subst (λ nets. ArePointsIn l n p nets) (sym c.deref.ensures.value) c.in_ok-points.ensures in
    let stuck = (subst (λ e. IsStopped c.grid_over-grid.result nets c.args.allowed e) c.in-Err-NoPath.field-0-is c.in-Err-NoPath.ensures.refused).1 in
    (stuck_point l n p c.args.metals c.requires.placed c.requires.some nets are c.grid_over-grid.result c.grid_over-grid.ensures c.args.allowed c.in-Err-NoPath.rips.items
    (tree_in c.in-Err-NoPath.so_far) c.in-Err-NoPath.net c.in-Err-NoPath.point stuck k seen).0

pub terminal_at-requires-clause-point : goal.terminal_at-requires-clause-point
terminal_at-requires-clause-point c = λ k seen.
    let l = c.args.library.now in
    let n = c.args.netlist.now in
    let p = c.args.placement.now in
    let nets = c.deref.result.now in
    let are = subst (λ nets. ArePointsIn l n p nets) (sym c.deref.ensures.value) c.in_ok-points.ensures in
    let stuck = (subst (λ e. IsStopped c.grid_over-grid.result nets c.args.allowed e) c.in-Err-NoPath.field-0-is c.in-Err-NoPath.ensures.refused).1 in
    (stuck_point l n p c.args.metals c.requires.placed c.requires.some nets are c.grid_over-grid.result c.grid_over-grid.ensures c.args.allowed c.in-Err-NoPath.rips.items
    (tree_in c.in-Err-NoPath.so_far) c.in-Err-NoPath.net c.in-Err-NoPath.point stuck k seen).1

pub name_rips-requires-in-Err-NoPath-clause-there : goal.name_rips-requires-in-Err-NoPath-clause-there
name_rips-requires-in-Err-NoPath-clause-there c = λ r i k seen.
    let l = c.args.library.now in
    let n = c.args.netlist.now in
    let p = c.args.placement.now in
    let nets = c.deref.result.now in
    let are = subst (λ nets. ArePointsIn l n p nets) (sym c.deref.ensures.value) c.in_ok-points.ensures in
    let stuck = (subst (λ e. IsStopped c.grid_over-grid.result nets c.args.allowed e) c.in-Err-NoPath.field-0-is c.in-Err-NoPath.ensures.refused).1 in
    known_rip l n p c.args.metals c.requires.placed c.requires.some nets are c.grid_over-grid.result c.grid_over-grid.ensures c.in-Err-NoPath.rips.items
    (tree_in c.in-Err-NoPath.so_far) stuck.run r (subst (λ (rs : List PointRip). In r rs) c.deref-in-Err-NoPath.ensures.value i) k seen

pub returns-clause-refused : goal.returns-clause-refused
returns-clause-refused c =
    let l = c.args.library.now in
    let n = c.args.netlist.now in
    let p = c.args.placement.now in
    let nets = c.deref.result.now in
    let are = subst (λ nets. ArePointsIn l n p nets) (sym c.deref.ensures.value) c.in_ok-points.ensures in
    let h = (subst (λ e. IsStopped c.grid_over-grid.result nets c.args.allowed e) c.in-Err-NoPath.field-0-is c.in-Err-NoPath.ensures.refused).1 in
    let named = c.in_ok-named-in-Err-NoPath.named in
    let names : AreAllNamed l n p c.in-Err-NoPath.rips.items named =
    subst (λ (rs : List PointRip). AreAllNamed l n p rs named) c.deref-in-Err-NoPath.ensures.value c.in_ok-named-in-Err-NoPath.ensures in
    spent_so l n p c.args.metals c.requires.placed c.requires.some nets are c.grid_over-grid.result c.grid_over-grid.ensures c.in-Err-NoPath.rips.items
    (tree_in c.in-Err-NoPath.so_far) h.run named names (known n) (one_seen l n p c.requires.placed) c.args.allowed c.in-Err-NoPath.net c.in-Err-NoPath.point
    c.in_ok-terminal-in-Err-NoPath.terminal h.few h.trees h.spent c.in_ok-terminal-in-Err-NoPath.ensures
