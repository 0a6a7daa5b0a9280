use Rattle.std.proofs.Common.{refl}
use Rattle.cell_function.proofs.Rest.{reads_next, goes_on}
use Rattle.cell_function.proofs.rows.add_values.Goals as goal

pub loop-equation-init : goal.loop-equation-init
loop-equation-init c = record { below = c.requires; same = refl }

pub value-bit-requires : goal.value-bit-requires
value-bit-requires c = reads_next c.args.w.now c.loop-equation.w c.args.equations.now c.loop-equation.equation-index c.equation-item.result c.loop-equation-test.true c.equation-item.is c.loop-equation.invariant

pub loop-equation-preserved : goal.loop-equation-preserved
loop-equation-preserved c =
    rw (c.in_ok-push.ensures.ok, c.value-bit.ensures)
    (goes_on c.args.w.now c.loop-equation.w c.args.equations.now c.loop-equation.equation-index c.equation-item.result c.loop-equation-test.true c.equation-item.is c.loop-equation.invariant)
