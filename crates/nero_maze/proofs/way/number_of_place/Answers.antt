use Rattle.std.proofs.Common.{◌+◌, ◌*◌, arith}
use Rattle.grid_core.proofs.Numbers.{below_plane, below_nodes, plane_few}
use Rattle.nero_maze.proofs.way.number_of_place.Goals as goal

pub overflow_mul-result-3 : goal.overflow_mul-result-3
overflow_mul-result-3 c =
    let g = c.args.grid.now in
    let p = c.args.place in
    let a = plane_few g p.layer c.requires.place.layer in
    let b = below_plane g p.row p.column c.requires.place.row c.requires.place.column in
    let s = c.requires.few in
    grind arith

pub overflow_add-result : goal.overflow_add-result
overflow_add-result c =
    let g = c.args.grid.now in
    let p = c.args.place in
    let b = below_plane g p.row p.column c.requires.place.row c.requires.place.column in
    let n = below_nodes g p.layer (p.row * g.columns + p.column) c.requires.place.layer b in
    let s = c.requires.few in
    omega arith
