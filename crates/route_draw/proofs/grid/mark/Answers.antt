use Rattle.std.proofs.Common.{◌++◌, List, length, refl, ap, ◌∙◌, arith}
use Rattle.maze_nets.specs.declared.points.NetPoints.{NetPoints}
use Rattle.route_draw.specs.GridPieces.{mark_lines}
use Rattle.route_draw.proofs.Gridded.{points_few, marked}
use Rattle.route_draw.proofs.grid.mark.Goals as goal

pub push_all_marks-requires : goal.push_all_marks-requires
push_all_marks-requires c =
    let few = points_few c.args.library.now c.args.netlist.now c.args.placement.now c.requires.placed c.in_ok-points.points.items c.in_ok-points.ensures (omega arith) in
    let e = ap length c.deref.ensures.value in
    omega (arith, few, e)

pub returns : goal.returns
returns c =
    marked c.args.library.now c.args.netlist.now c.args.placement.now c.requires.placed c.in_ok-points.points.items c.in_ok-points.ensures c.args.figure _ refl refl
    (c.in_ok-push_all_marks.ensures ∙ ap (λ (nets : List NetPoints). c.args.figure.items ++ mark_lines 0 nets) c.deref.ensures.value)
