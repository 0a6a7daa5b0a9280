use Rattle.std.proofs.Common.{◌∙◌, arith}
use Rattle.std.proofs.Math.ListN.{length-set}
use Rattle.s2r_run.proofs.Numbers.{numbers_next}
use Rattle.s2r_run.proofs.reader.read_grow.Goals as goal

pub loop-place-preserved : goal.loop-place-preserved
loop-place-preserved c =
    let i = c.loop-place.invariant in
    let low = c.loop-place-test.true in
    record {
      count = length-set c.loop-place.grow c.loop-place.place c.in-Some.number ∙ i.count;
      numbers = numbers_next c.args.line.now c.loop-place.grow c.field-in-loop-place.result.now c.loop-place.place c.in-Some.number (omega (arith, i.count, low)) i.numbers
          c.field-in-loop-place.ensures c.in-Some.ensures.some;
    }
