use Rattle.std.proofs.Common.{get_or, arith}
use Rattle.cell_match.proofs.Numbers.{times_some}
use Rattle.boog_part.proofs.Marking.{marked_more}
use Rattle.boog_part.proofs.marks.mark.Goals as goal

pub bounds-marks-number : goal.bounds-marks-number
bounds-marks-number c =
    let inside = c.requires (get_or c.args.numbers.now c.loop-number.number-index 0) (times_some c.args.numbers.now c.loop-number.number-index c.loop-number-test.true) in
    let same = c.loop-number.auto.marks in
    omega (arith, inside, same)

pub loop-number-preserved : goal.loop-number-preserved
loop-number-preserved c =
    let inside = c.requires (get_or c.args.numbers.now c.loop-number.number-index 0) (times_some c.args.numbers.now c.loop-number.number-index c.loop-number-test.true) in
    let same = c.loop-number.auto.marks in
    marked_more c.args.marks.now c.loop-number.marks c.args.numbers.now c.loop-number.number-index c.loop-number-test.true (omega (arith, inside, same)) c.loop-number.invariant
