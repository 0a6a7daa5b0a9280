use Rattle.std.proofs.Common.{◌-◌, arith}
use Rattle.grid_core.proofs.Numbers.{below_plane, plane_few}
use Rattle.grid_core.proofs.grid.number_of.Goals as goal

pub overflow_mul-result-3 : goal.overflow_mul-result-3
overflow_mul-result-3 c =
    let g = c.args.grid.now in
    let p = c.args.node in
    let low = c.requires.within.low in
    let high = c.requires.within.high in
    let a = plane_few g (p.metal - 2) (omega arith) in
    let b = below_plane g p.row p.column c.requires.within.row c.requires.within.column in
    let s = c.requires.few in
    grind arith
