use Rattle.std.proofs.Common.{ℕ, length, arith}
use Rattle.std.specs.Global.{Vec}
use Rattle.nero_run.proofs.Grid.{few_shown, grid_fits}
use Rattle.nero_run.proofs.placed.grid_nodes.Goals as goal

pub overflow_mul-result-2 : goal.overflow_mul-result-2
overflow_mul-result-2 c =
    let pitch = c.from.ensures in
    let high = c.from-2.ensures in
    let metals = c.from-3.ensures in
    let most = c.requires.metals.1 in
    let few = few_shown (λ (row : Vec ℕ). row.items) c.rows.result.now c.args.placement.now.rows c.rows.ensures c.requires.rows in
    let fits = grid_fits c.width.result c.from.result c.from-2.result (length c.rows.result.now) c.from-3.result c.width.ensures.narrow (omega (arith, pitch))
    (omega (arith, high)) few (omega (arith, metals, most)) in
    omega (arith, fits)
