use Rattle.std.proofs.Common.{get_or, None, refl}
use Rattle.fsm_io.specs.Pieces.{is_marked_bit}
use Rattle.fsm_io.proofs.Leasts.{bit_step}
use Rattle.fsm_io.proofs.drivers.least_unmarked.Goals as goal

pub loop-bit-preserved : goal.loop-bit-preserved
loop-bit-preserved c =
    bit_step (is_marked_bit c.args.numbers.now c.args.marks.now) c.args.symbol.now.text c.args.bits.now c.loop-bit.bit-index (get_or c.args.bits.now c.loop-bit.bit-index None) c.is_marked_bit-passes.result
    c.loop-bit.least c.least_with-least.result _ c.loop-bit-test.true refl c.is_marked_bit-passes.ensures c.least_with-least.ensures c.loop-bit.invariant
