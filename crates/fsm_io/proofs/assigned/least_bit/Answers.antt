use Rattle.std.proofs.Common.{get_or, None, refl}
use Rattle.vlsi_base.specs.declared.name.Name.{Name}
use Rattle.fsm_machine.specs.Assigned.{sets_output}
use Rattle.fsm_code.specs.View.{body_view}
use Rattle.fsm_io.specs.Assigned.{always}
use Rattle.fsm_io.proofs.Leasts.{bit_step}
use Rattle.fsm_io.proofs.assigned.least_bit.Goals as goal

pub loop-bit-preserved : goal.loop-bit-preserved
loop-bit-preserved c =
    bit_step (λ (n : Name). always c.args.count (sets_output n) (body_view c.args.body.now)) c.args.symbol.now.text c.args.bits.now c.loop-bit.bit-index (get_or c.args.bits.now c.loop-bit.bit-index None) c.is_always-passes.result
    c.loop-bit.least c.least_with-least.result _ c.loop-bit-test.true refl c.is_always-passes.ensures c.least_with-least.ensures c.loop-bit.invariant
