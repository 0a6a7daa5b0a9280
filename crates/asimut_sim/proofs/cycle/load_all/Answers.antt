use Rattle.std.proofs.Common.{◌<◌, ap, set, length, arith}
use Rattle.std.proofs.lemmas.List.{get_or_default}
use Rattle.asimut_sim.proofs.LoadsLemmas.{written_next, written_all}
use Rattle.asimut_sim.proofs.cycle.load_all.Goals as goal

pub loaded-requires : goal.loaded-requires
loaded-requires c = c.requires.below c.loop-k.k _ c.loop-k-test.true

pub loop-k-preserved : goal.loop-k-preserved
loop-k-preserved c =
    let low = c.loop-k-test.true in
    let size = c.loop-k.auto.contents in
    let lengths = c.requires.lengths in
    let within : c.loop-k.k < length c.loop-k.contents = omega (arith, low, size, lengths) in
    written_next c.args.bits.now c.args.loads.now c.args.contents.now c.loop-k.contents _ c.loop-k.k _ _ low (get_or_default _ c.loop-k.k _ _ low)
    within (get_or_default _ c.loop-k.k _ _ within)
    (ap (set c.loop-k.contents c.loop-k.k) c.loaded.ensures) c.loop-k.invariant

pub returns : goal.returns
returns c =
    let low = c.loop-k-test.false in
    let size = c.loop-k.auto.contents in
    let lengths = c.requires.lengths in
    written_all c.args.bits.now c.args.loads.now c.args.contents.now c.loop-k.contents c.loop-k.k low (omega (arith, low, size, lengths)) c.loop-k.invariant
