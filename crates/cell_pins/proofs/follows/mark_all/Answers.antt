use Rattle.std.proofs.Common.{refl}
use Rattle.cell_pins.proofs.Rest.{reads_next, goes_on}
use Rattle.cell_pins.proofs.follows.mark_all.Goals as goal

pub loop-equation-init : goal.loop-equation-init
loop-equation-init c = record { below = c.requires; same = refl }

pub reads_mark-requires : goal.reads_mark-requires
reads_mark-requires c = rw c.deref.ensures.value (reads_next c.args.marks.now.items c.loop-equation.marks.items c.args.equations.now c.loop-equation.equation-index c.equation-item.result c.loop-equation-test.true c.equation-item.is c.loop-equation.invariant)

pub loop-equation-preserved : goal.loop-equation-preserved
loop-equation-preserved c =
    rw (c.in_ok-push.ensures.items, c.in_ok-mark.ensures, c.deref.ensures.value)
    (goes_on c.args.marks.now.items c.loop-equation.marks.items c.args.equations.now c.loop-equation.equation-index c.equation-item.result c.loop-equation-test.true c.equation-item.is c.loop-equation.invariant)
