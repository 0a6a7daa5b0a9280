use Rattle.std.proofs.Common.{arith}
use Rattle.pat_io.proofs.Pieces.{spells-next, pow-small}
use Rattle.pat_io.proofs.writer.digit.Goals as goal

pub loop-bit-preserved : goal.loop-bit-preserved
loop-bit-preserved c =
    rw c.twice-value.ensures (spells-next c.args.bits.now c.loop-bit.bit-index c.loop-bit.value c.loop-bit-test.true c.requires c.loop-bit.invariant)

pub twice-value-requires : goal.twice-value-requires
twice-value-requires c =
    let s = c.loop-bit.invariant.small in omega (arith, s, pow-small c.loop-bit.bit-index (let h = c.loop-bit-test.true in let g = c.requires in omega arith))
