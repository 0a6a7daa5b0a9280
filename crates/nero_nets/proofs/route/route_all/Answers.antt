use Rattle.std.proofs.Common.{◌<◌, ◌^◌, List, length, sym, subst, arith}
use Rattle.grid_core.specs.Shown.{tree_in}
use Rattle.maze_nets.specs.declared.points.NetPoints.{NetPoints}
use Rattle.maze_nets.specs.Answers.{IsRefusal as IsStopped}
use Rattle.ocp_grid.specs.Points.{ArePointsIn}
use Rattle.ocp_place.proofs.Classes.{known, known_seen}
use Rattle.nero_nets.proofs.Routed.{few_columns, few_nets, few_nodes, routable_all, routed, trees_as, net_known, terminal_there, refused}
use Rattle.nero_nets.proofs.route.route_all.Goals as goal

pub grid_over-grid-requires-clause-columns : goal.grid_over-grid-requires-clause-columns
grid_over-grid-requires-clause-columns c =
    few_columns c.args.library.now c.args.netlist.now c.args.placement.now c.requires.placed c.args.metals c.requires.some c.requires.few

pub grid_over-grid-requires-clause-rows : goal.grid_over-grid-requires-clause-rows
grid_over-grid-requires-clause-rows c = (c.requires.placed.rows (known c.args.netlist.now) (known_seen c.args.netlist.now c.requires.placed.drawable.sound)).few

pub net_points-requires-clause-columns : goal.net_points-requires-clause-columns
net_points-requires-clause-columns c =
    few_columns c.args.library.now c.args.netlist.now c.args.placement.now c.requires.placed c.args.metals c.requires.some c.requires.few

pub route_nets-requires-clause-few_nodes : goal.route_nets-requires-clause-few_nodes
route_nets-requires-clause-few_nodes c =
    few_nodes c.args.library.now c.args.netlist.now c.args.placement.now c.args.metals c.requires.placed c.requires.some c.in_ok-points.points.items c.in_ok-points.ensures
    c.grid_over-grid.result c.grid_over-grid.ensures c.requires.few

pub route_nets-requires-clause-few : goal.route_nets-requires-clause-few
route_nets-requires-clause-few c =
    let few = subst (λ cs. length cs < 2 ^ 32) c.classes.ensures.classes c.classes.ensures.few in
    subst (λ (nets : List NetPoints). length nets < 4294967295) (sym c.deref.ensures.value)
    (few_nets c.args.library.now c.args.netlist.now c.args.placement.now c.requires.placed few c.in_ok-points.points.items c.in_ok-points.ensures)

pub route_nets-requires-clause-routable : goal.route_nets-requires-clause-routable
route_nets-requires-clause-routable c =
    routable_all c.args.library.now c.args.netlist.now c.args.placement.now c.args.metals c.requires.placed c.requires.some c.deref.result.now
    (subst (λ nets. ArePointsIn c.args.library.now c.args.netlist.now c.args.placement.now nets) (sym c.deref.ensures.value) c.in_ok-points.ensures)
    c.grid_over-grid.result c.grid_over-grid.ensures c.points_are_apart.ensures c.placements_are_in_rows.ensures

pub returns-in-Ok-clause-routed : goal.returns-in-Ok-clause-routed
returns-in-Ok-clause-routed c =
    routed c.args.library.now c.args.netlist.now c.args.placement.now c.args.metals c.requires.placed c.requires.some c.deref.result.now
    (subst (λ nets. ArePointsIn c.args.library.now c.args.netlist.now c.args.placement.now nets) (sym c.deref.ensures.value) c.in_ok-points.ensures)
    c.grid_over-grid.result c.grid_over-grid.ensures (tree_in c.in-Ok.routes) c.in-Ok.ensures.routes c.in-Ok.ensures.whole c.in-Ok.ensures.ordered

pub net_terminals-requires-clause-there : goal.net_terminals-requires-clause-there
net_terminals-requires-clause-there c =
    let stopped = subst (λ e. IsStopped c.grid_over-grid.result c.deref.result.now e) c.in-Err-NoPath.field-0-is c.in-Err-NoPath.ensures.refused in
    net_known c.args.library.now c.args.netlist.now c.args.placement.now c.args.metals c.requires.placed c.requires.some c.deref.result.now
    (subst (λ nets. ArePointsIn c.args.library.now c.args.netlist.now c.args.placement.now nets) (sym c.deref.ensures.value) c.in_ok-points.ensures)
    c.grid_over-grid.result c.grid_over-grid.ensures (tree_in c.in-Err-NoPath.so_far) c.in-Err-NoPath.net c.in-Err-NoPath.point stopped.2

pub swap_remove-requires : goal.swap_remove-requires
swap_remove-requires c =
    let stopped = subst (λ e. IsStopped c.grid_over-grid.result c.deref.result.now e) c.in-Err-NoPath.field-0-is c.in-Err-NoPath.ensures.refused in
    let there = terminal_there c.args.library.now c.args.netlist.now c.args.placement.now c.args.metals c.requires.placed c.requires.some c.deref.result.now
    (subst (λ nets. ArePointsIn c.args.library.now c.args.netlist.now c.args.placement.now nets) (sym c.deref.ensures.value) c.in_ok-points.ensures)
    c.grid_over-grid.result c.grid_over-grid.ensures (tree_in c.in-Err-NoPath.so_far) c.in-Err-NoPath.net c.in-Err-NoPath.point stopped.2
    c.in_ok-terminals-in-Err-NoPath.terminals.items c.in_ok-terminals-in-Err-NoPath.ensures in
    omega (arith, there)

pub returns-clause-refused : goal.returns-clause-refused
returns-clause-refused c =
    let l = c.args.library.now in
    let n = c.args.netlist.now in
    let p = c.args.placement.now in
    let nets = c.deref.result.now in
    let are = subst (λ nets. ArePointsIn l n p nets) (sym c.deref.ensures.value) c.in_ok-points.ensures in
    let routes = tree_in c.in-Err-NoPath.so_far in
    let stopped = subst (λ e. IsStopped c.grid_over-grid.result nets e) c.in-Err-NoPath.field-0-is c.in-Err-NoPath.ensures.refused in (
      λ k seen. trees_as l n p c.args.metals c.requires.placed c.requires.some nets are c.grid_over-grid.result c.grid_over-grid.ensures routes k seen stopped.1,
      refused l n p c.args.metals c.requires.placed c.requires.some nets are c.grid_over-grid.result c.grid_over-grid.ensures routes c.in-Err-NoPath.net c.in-Err-NoPath.point stopped.2
          c.in_ok-terminals-in-Err-NoPath.terminals.items c.in_ok-terminals-in-Err-NoPath.ensures c.swap_remove.result c.swap_remove.ensures.value,
    )
