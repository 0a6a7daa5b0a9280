use Rattle.pat_io.proofs.Pieces.{spelled-next}
use Rattle.pat_io.proofs.writer.digits.Goals as goal

pub loop-step-preserved : goal.loop-step-preserved
loop-step-preserved c =
    rw (c.in_ok-append.ensures.ok, c.digit.ensures)
    (spelled-next c.args.out.now c.digit_width-each.result c.div_ceil-count.result c.args.bits.now c.loop-step.step c.loop-step.out c.loop-step.rest.now
    c.split_at.result.0.now c.split_at.result.1.now c.digit_width-each.ensures.some c.loop-step-test.true
    c.split_at.ensures.front c.split_at.ensures.back c.split_at.ensures.back_len c.loop-step.invariant)
