use Rattle.std.proofs.Common.{ℕ, ◌+◌, ◌-◌, ◌/◌, ◌<◌, length, refl, arith}
use Rattle.sym_near.proofs.Sweeps.{skips_upto}
use Rattle.sym_near.proofs.sweep.overlap_end.Goals as goal

pub loop-low-preserved-then-overlaps : goal.loop-low-preserved-then-overlaps
loop-low-preserved-then-overlaps c =
    let low = c.loop-low.low in
    let high = c.loop-low.high in
    let middle : ℕ = low + (high - low) / 2 in
    let after = c.loop-low.invariant.after in
    let top = c.loop-low.invariant.high in
    let within : middle < length c.args.entries.now = omega (arith, c.loop-low-test.true, top) in
    record {
      after = omega (arith, after);
      low = omega (arith, within);
      high = top;
      skips = skips_upto c.args.entries.now c.args.gap c.args.p middle c.requires.ordered within (c.if-overlaps.ensures.same refl).0 (c.if-overlaps.ensures.same refl).1 (c.if-overlaps.ensures.before refl);
    }
