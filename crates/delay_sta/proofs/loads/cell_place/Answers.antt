use Rattle.std.proofs.Common.{length, rules, arith}
use Rattle.delay_sta.proofs.Finding.{found_at, passed_at, absent_at}
use Rattle.delay_sta.proofs.loads.cell_place.Goals as goal

pub returns-then-is_same : goal.returns-then-is_same
returns-then-is_same c = found_at c.args.cells.now c.args.model.now c.loop-place.place c.index-cells-place.result c.loop-place-test.true c.index-cells-place.is c.loop-place.invariant (search rules)

pub loop-place-preserved : goal.loop-place-preserved
loop-place-preserved c = passed_at c.args.cells.now c.args.model.now c.loop-place.place c.index-cells-place.result c.loop-place-test.true c.index-cells-place.is c.loop-place.invariant (search rules)

pub returns : goal.returns
returns c = absent_at c.args.cells.now c.args.model.now c.loop-place.place (length c.args.cells.now) c.loop-place-test.false (omega arith) c.loop-place.invariant
